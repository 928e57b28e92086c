-- The instances so far that depend on the one of the step have steps.
use Rattle.std.proofs.Common.{◌≡◌, ◌<◌, ℕ, Some}
use Rattle.std.specs.List.{slice_get}
use Rattle.tfs_state.specs.Dependency.{DependsOn}
use Rattle.tfs_plan.specs.Search.{Grows, HasStep}
use Rattle.tfs_plan.specs.declared.chain.Step.{Step}
use Rattle.tfs_plan.proofs.chain.follow.Given as goal

abbrev pub invariant-loop-u : goal.invariant-loop-u
invariant-loop-u l = record {
  grows : Grows l.doc l.starts l.initial.found l.found;
  joined : (s : Step) → slice_get l.initial.found.steps.items l.place ≡ Some s
      → (w : ℕ) → w < l.u → DependsOn l.doc w s.instance → HasStep l.found.steps.items w;
}
