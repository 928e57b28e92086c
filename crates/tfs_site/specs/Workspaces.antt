-- The workspaces that a reader may read, as JSON.
use Rattle.std.specs.Prelude.{◌≡◌, ◌⊎◌, ℕ, ℤ, List, [], ◌∷◌, ◌++◌, codes, Option}
use Rattle.serde_json.specs.Data.{Data, array, string, object, member, no_members}
use Rattle.serde_json.specs.View.{items_of}
use Rattle.serde_json.specs.Written.{compact_text}
use Rattle.tfs_json.specs.Json.{text_at}
use Rattle.tfs_records.specs.Journal.{Journal, names_of, position_of}
use Rattle.tfs_reports.specs.Rows.{IsListed, text_or_null, whole}
use Rattle.tfs_web_answers.specs.Readers.{Reads, Rights}

-- A row with who made a workspace's last change, and when.
abbrev pub changed_row : Data → Data → Data → Data
changed_row row who time = object
    (member (codes "changed_at") time
    (member (codes "changed_by") who
    (member (codes "workspace") row no_members)))

-- The value is a text, or this one as far as it is known.
abbrev pub IsTextOr : Option (List ℕ) → Data → Type 0
IsTextOr other value = ((text : List ℕ) × (value ≡ string text)) ⊎ (value ≡ text_or_null other)

-- The value is a row with two texts, who and when; without them, those of some lock information.
pub record IsChangedRow (row words value : Data) : Type 0 where
  pub who : Data
  pub is_who : IsTextOr (text_at (codes "Who") words) who
  pub time : Data
  pub is_time : IsTextOr (text_at (codes "Created") words) time
  pub is : value ≡ changed_row row who time

-- The row shows a workspace as `list` prints it, and who made its last change and when.
pub record IsShown (name : List ℕ) (j : Journal) (now : Option ℤ) (row : Data) : Type 0 where
  pub listed : Data
  pub is_listed : IsListed name j now listed
  pub words : Data
  pub is : IsChangedRow listed words row

-- The rows of one name for a reader: its row if the reader may read it, and otherwise none.
abbrev pub Shows : Rights → Journal → Option ℤ → List ℕ → List Data → Type 0
Shows rights j now name rows =
    (Reads rights name × ((row : Data) × IsShown name j now row × (rows ≡ row ∷ [])))
    ⊎ ((¬ (Reads rights name)) × (rows ≡ []))

-- The rows of some names for a reader, in the order of the names.
unfoldable pub ShowAll : Rights → Journal → Option ℤ → List (List ℕ) → List Data → Type 0
ShowAll rights j now [] rows = rows ≡ []
ShowAll rights j now (name ∷ names) rows = (own : List Data) × (rest : List Data)
    × Shows rights j now name own × ShowAll rights j now names rest × (rows ≡ own ++ rest)

-- The answer with these rows at a position of the journal.
abbrev pub list_of : List Data → ℕ → Data
list_of rows position = object
    (member (codes "position") (whole position)
    (member (codes "workspaces") (array (items_of rows)) no_members))

-- The text has a row for each name of a journal that a reader may read, and no other row.
abbrev pub IsList : Rights → Journal → Option ℤ → List ℕ → Type 0
IsList rights j now text = (rows : List Data) × ShowAll rights j now (names_of j) rows
    × (text ≡ compact_text (list_of rows (position_of j)))
