-- The steps before the place are closed.
use Rattle.std.proofs.Common.{◌-◌, length}
use Rattle.tfs_plan.specs.Search.{IsSearch, Extends}
use Rattle.tfs_plan.proofs.chain.spread.Given as goal

abbrev pub invariant-loop-place : goal.invariant-loop-place
invariant-loop-place l = record {
  search : IsSearch l.doc l.starts l.place l.found;
  longer : Extends l.initial.found.steps.items l.found.steps.items;
}

abbrev pub decreases-loop-place : goal.decreases-loop-place
decreases-loop-place l = length l.doc.instances - l.place
