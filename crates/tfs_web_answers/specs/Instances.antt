-- The instances of a state, as JSON.
use Rattle.std.specs.Prelude.{◌≡◌, ℕ, List, codes, length, map, Option, option_and_then, option_map, slice_get}
use Rattle.std.specs.List.{flat_map}
use Rattle.std.specs.Option.{option_to_list}
use Rattle.serde_json.specs.Data.{Data, unsigned, number, string, array, object, member, no_members}
use Rattle.serde_json.specs.View.{items_of}
use Rattle.serde_json.specs.Written.{compact_text}
use Rattle.tfs_state.specs.Document.{Document}
use Rattle.tfs_state.specs.Dependency.{address_of, config_of}
use Rattle.tfs_state.specs.Numbering.{NumberTable, IsNumbering}

-- A number as JSON.
abbrev pub whole : ℕ → Data
whole n = number (unsigned n)

-- The row of an instance: its address, the resource's configuration address, a number for that, and
-- the numbers of the resources that it depends on.
abbrev pub row_text : List ℕ → List ℕ → ℕ → List ℕ → Data
row_text address resource own needs = object
    (member (codes "address") (string address)
    (member (codes "dependencies") (array (items_of (map whole needs)))
    (member (codes "number") (whole own)
    (member (codes "resource") (string resource) no_members))))

-- The row of instance i of a document whose resources have these numbers; none without such an
-- instance.
abbrev pub instance_row : Document → NumberTable → ℕ → Option Data
instance_row d table i =
    option_and_then (λ address.
    option_and_then (λ resource.
    option_and_then (λ own.
    option_map (row_text address resource own) (slice_get table.dependencies i))
    (slice_get table.configs i))
    (config_of d i))
    (address_of d i)

-- The rows of some instances. Numbers without an instance are skipped.
abbrev pub rows_of : Document → NumberTable → List ℕ → List Data
rows_of d table chosen = flat_map (λ i. option_to_list (instance_row d table i)) chosen

-- The answer with rows at a position of the journal.
abbrev pub answer_of : Document → List Data → ℕ → Data
answer_of d rows position = object
    (member (codes "instances") (array (items_of rows))
    (member (codes "position") (whole position)
    (member (codes "serial") (whole d.serial) no_members)))

-- The text has the rows of these instances.
abbrev pub HasRows : Document → List ℕ → ℕ → List ℕ → Type 0
HasRows d chosen position text = (table : NumberTable) × IsNumbering d table
    × (text ≡ compact_text (answer_of d (rows_of d table chosen) position))
