-- No step so far is of the instance.
use Rattle.std.proofs.Common.{◌≡◌, ◌≢◌, ◌<◌, ℕ, Some}
use Rattle.std.specs.List.{slice_get}
use Rattle.tfs_plan.specs.declared.chain.Step.{Step}
use Rattle.tfs_plan.proofs.chain.place_of.Given as goal

abbrev pub invariant-loop-place : goal.invariant-loop-place
invariant-loop-place l = (k : ℕ) (s : Step) → k < l.place → slice_get l.steps k ≡ Some s → s.instance ≢ l.u
