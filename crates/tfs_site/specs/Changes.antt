-- The changes between two states, as JSON.
use Rattle.std.specs.Prelude.{ℕ, List, codes, map}
use Rattle.serde_json.specs.Data.{Data, string, array, object, member, no_members}
use Rattle.serde_json.specs.View.{items_of}
use Rattle.serde_json.specs.Written.{compact_text}
use Rattle.tfs_versions.specs.Diff.{ChangeValue}
use Rattle.tfs_versions.specs.declared.difference.ChangeKind.{ChangeKind}
use Rattle.tfs_versions.specs.declared.difference.ChangeKind.TheVariants.{Added, Removed, Changed}

-- The word for a kind of change.
abbrev pub word_of : ChangeKind → List ℕ
word_of Added = codes "added"
word_of Removed = codes "removed"
word_of Changed = codes "changed"

-- The row of a change: its kind and the address of the instance, and no attribute.
abbrev pub change_row : ChangeValue → Data
change_row c = object
    (member (codes "change") (string (word_of c.kind))
    (member (codes "instance") (string c.address) no_members))

-- The answer with these rows.
abbrev pub changes_of : List Data → Data
changes_of rows = object (member (codes "changes") (array (items_of rows)) no_members)

-- The text with these changes.
abbrev pub changes_text : List ChangeValue → List ℕ
changes_text changes = compact_text (changes_of (map change_row changes))
