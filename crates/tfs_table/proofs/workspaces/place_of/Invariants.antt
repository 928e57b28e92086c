-- Names before `low` are less than the name, and names from `high` on are greater.
use Rattle.std.proofs.Common.{◌-◌}
use Rattle.tfs_table.proofs.SearchLemmas.{Narrows}
use Rattle.tfs_table.proofs.workspaces.place_of.Given as goal

abbrev pub invariant-loop-low : goal.invariant-loop-low
invariant-loop-low l = Narrows l.workspaces l.fn.name l.low l.high

abbrev pub decreases-loop-low : goal.decreases-loop-low
decreases-loop-low l = l.high - l.low
