-- The dependencies before the current one are read.
use Rattle.std.proofs.Common.{map, take}
use Rattle.tfs_json.specs.Tree.{tree_view as view}
use Rattle.tfs_state.specs.Tables.{ReadsDependencies}
use Rattle.tfs_state.proofs.tables.read_dependencies.Given as goal

abbrev pub invariant-loop-k : goal.invariant-loop-k
invariant-loop-k l = ReadsDependencies l.i l.j (map view (take l.k l.list)) l.initial.names l.names l.numbers.items
