-- The resources before the current one are read.
use Rattle.std.proofs.Common.{map, take}
use Rattle.tfs_json.specs.Tree.{tree_view as view}
use Rattle.tfs_state.specs.Tables.{ReadsResources}
use Rattle.tfs_state.proofs.tables.Tables.read.Given as goal

abbrev pub invariant-loop-i : goal.invariant-loop-i
invariant-loop-i l = ReadsResources (map view (take l.i l.list)) l.tables
