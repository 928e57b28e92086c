-- The rows of reports, as JSON.
use Rattle.std.specs.Prelude.{◌≡◌, ℕ, ℤ, List, length, codes, Option, option_and_then, option_map}
use Rattle.std.specs.Option.{option_map_or}
use Rattle.serde_json.specs.Data.{unsigned, Data, null, number, string, object, no_members, member}
use Rattle.tfs_rules.specs.History.{Standing, standing_of}
use Rattle.tfs_records.specs.Journal.{Journal, acts_of}
use Rattle.tfs_versions.specs.declared.event.Outline.{Outline}
use Rattle.tfs_versions.specs.Changed.{IsLastChange}
use Rattle.tfs_versions.specs.Holding.{word_at, taken_at}
use Rattle.tfs_reports.specs.Clock.{age_of}

-- A number as JSON.
abbrev pub whole : ℕ → Data
whole n = number (unsigned n)

-- A number as JSON; null if it isn't known.
abbrev pub whole_or_null : Option ℕ → Data
whole_or_null n = option_map_or whole n null

-- A text as JSON; null if it isn't known.
abbrev pub text_or_null : Option (List ℕ) → Data
text_or_null text = option_map_or string text null

-- The row of a workspace with its state and its lock holder; members of an absent one are null.
abbrev pub standing_row : List ℕ → Standing → Option ℕ → Option ℕ → Data
standing_row name has changed held = object
    (member (codes "bytes") (whole_or_null (option_map (λ d. length d.bytes) has.state))
    (member (codes "changed") (whole_or_null changed)
    (member (codes "created") (text_or_null (option_and_then (word_at (codes "Created")) has.holder))
    (member (codes "held") (whole_or_null held)
    (member (codes "holder") (text_or_null (option_and_then (word_at (codes "ID")) has.holder))
    (member (codes "instances") (whole_or_null (option_map (λ d. length d.instances) has.state))
    (member (codes "name") (string name)
    (member (codes "operation") (text_or_null (option_and_then (word_at (codes "Operation")) has.holder))
    (member (codes "serial") (whole_or_null (option_map (λ d. d.serial) has.state))
    (member (codes "who") (text_or_null (option_and_then (word_at (codes "Who")) has.holder)) no_members))))))))))

-- The row of a workspace of a journal, with the position of its last change and the age of its lock
-- in seconds.
abbrev pub name_row : Journal → List ℕ → Option ℕ → Option ℕ → Data
name_row j name changed held = standing_row name (standing_of (acts_of name j)) changed held

-- The row of a workspace of a journal, given the current time.
pub record IsListed (name : List ℕ) (j : Journal) (now : Option ℤ) (row : Data) : Type 0 where
  pub changed : Option ℕ
  pub last : IsLastChange name j changed
  pub is : row ≡ name_row j name changed (age_of now (taken_at j name))

-- The row of an act that carries only an identifier.
abbrev pub act_row : List ℕ → ℕ → Option (List ℕ) → Data
act_row act position id = object
    (member (codes "act") (string act) (member (codes "id") (text_or_null id) (member (codes "position") (whole position) no_members)))

-- The row of a push, with the outline of its state.
abbrev pub push_row : ℕ → Option (List ℕ) → Outline → Data
push_row position id outline = object
    (member (codes "act") (string (codes "push"))
    (member (codes "bytes") (whole outline.bytes)
    (member (codes "id") (text_or_null id)
    (member (codes "instances") (whole outline.instances)
    (member (codes "position") (whole position)
    (member (codes "serial") (whole outline.serial) no_members))))))
