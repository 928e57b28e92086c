-- The workspaces of the names so far.
use Rattle.std.proofs.Common.{◌≡◌, take}
use Rattle.std.specs.List.{flat_map}
use Rattle.std.specs.Option.{option_to_list}
use Rattle.tfs_reports.specs.Across.{workspace_in}
use Rattle.tfs_reports.proofs.across.workspaces_of.Given as goal

abbrev pub invariant-loop-name : goal.invariant-loop-name
invariant-loop-name g l = l.workspaces.items
    ≡ flat_map (λ name. option_to_list (workspace_in l.table.journal name)) (take l.name-index l.names)
