-- The workspaces of a journal, and the rows of `impact --across`, as JSON.
use Rattle.std.specs.Prelude.{ℕ, Bool, List, codes, Option, option_map}
use Rattle.serde_json.specs.Data.{Data, boolean, string, object, no_members, member}
use Rattle.tfs_rules.specs.History.{state_of}
use Rattle.tfs_records.specs.Journal.{Journal, acts_of}
use Rattle.tfs_across.specs.Across.{WorkspaceValue}

-- The workspace of a name in a journal, if it has a state there.
abbrev pub workspace_in : Journal → List ℕ → Option WorkspaceValue
workspace_in j name = option_map (λ d. record { name = name; document = d }) (state_of (acts_of name j))

-- The row of a workspace that reads another.
abbrev pub reader_row : List ℕ → Bool → Data
reader_row name is_direct = object
    (member (codes "direct") (boolean is_direct) (member (codes "name") (string name) no_members))
