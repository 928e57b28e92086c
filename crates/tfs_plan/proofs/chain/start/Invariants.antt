-- The changed instances so far have steps.
use Rattle.std.proofs.Common.{ℕ, ◌≤◌, ◌<◌}
use Rattle.tfs_plan.specs.Search.{Grows, IsSearch, HasStart}
use Rattle.tfs_plan.proofs.chain.start.Given as goal

abbrev pub invariant-loop-i : goal.invariant-loop-i
invariant-loop-i l = record {
  grows : Grows l.doc l.starts l.initial.found l.found;
  started : (below : ℕ) → IsSearch l.doc l.starts below l.initial.found
      → (k : ℕ) → l.from ≤ k → k < l.i → HasStart l.doc l.starts l.found.steps.items k;
}
