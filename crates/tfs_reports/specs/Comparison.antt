-- The rows of `diff`, as JSON.
use Rattle.std.specs.Prelude.{◌==◌, ℕ, List, length, map, codes, Option, Some, option_map, option_and_then, if◌then◌else◌}
use Rattle.serde_json.specs.Data.{Data, null, string, array, object, no_members, member}
use Rattle.serde_json.specs.View.{items_of}
use Rattle.tfs_json.specs.Json.{json_value}
use Rattle.tfs_versions.specs.Diff.{ChangeValue, DifferenceValue}
use Rattle.tfs_versions.specs.declared.difference.ChangeKind.{ChangeKind}
use Rattle.tfs_versions.specs.declared.difference.ChangeKind.TheVariants.{Added, Removed, Changed}

-- The word for a kind of change.
abbrev pub word_of : ChangeKind → List ℕ
word_of Added = codes "added"
word_of Removed = codes "removed"
word_of Changed = codes "changed"

-- The row of a change with the names of its attributes.
abbrev pub change_row : ChangeValue → Data
change_row c = object
    (member (codes "attributes") (array (items_of (map (λ d. string d.name) c.attributes)))
    (member (codes "change") (string (word_of c.kind))
    (member (codes "instance") (string c.address) no_members)))

-- The row of an attribute of a change, with both values.
abbrev pub value_row : ChangeValue → Data → Data → Data → Data
value_row c attribute from to = object
    (member (codes "attribute") attribute
    (member (codes "change") (string (word_of c.kind))
    (member (codes "from") from
    (member (codes "instance") (string c.address)
    (member (codes "to") to no_members)))))

-- The row of a change without attributes.
abbrev pub instance_row : ChangeValue → Data
instance_row c = value_row c null null null

-- The value of a JSON text, or null for the empty one.
abbrev pub value_of : List ℕ → Option Data
value_of text = if length text == 0 then Some null else json_value text

-- The row of an attribute that differs; none if a value isn't valid JSON.
abbrev pub difference_row : ChangeValue → DifferenceValue → Option Data
difference_row c d = option_and_then
    (λ from. option_map (value_row c (string d.name) from) (value_of d.to)) (value_of d.from)
