-- The instances before the current one are added.
use Rattle.std.proofs.Common.{map, take}
use Rattle.tfs_json.specs.Tree.{tree_view as view}
use Rattle.tfs_state.specs.Tables.{AddsInstances}
use Rattle.tfs_state.proofs.tables.Tables.read_instances.Given as goal

abbrev pub invariant-loop-j : goal.invariant-loop-j
invariant-loop-j l = AddsInstances l.i l.place (map view (take l.j l.list)) l.initial.self l.self
