-- The instances so far and that of the next step are a path, and each step is earlier than the one
-- before.
use Rattle.std.proofs.Common.{◌≡◌, ◌<◌, ◌++◌, ◌∷◌, [], Some, length}
use Rattle.std.specs.List.{slice_get}
use Rattle.tfs_plan.specs.Chains.{IsPath}
use Rattle.tfs_plan.specs.declared.chain.Step.{Step}
use Rattle.tfs_plan.proofs.chain.chain_back.Given as goal

abbrev pub invariant-loop-chain : goal.invariant-loop-chain
invariant-loop-chain l = record {
  within : l.at < length l.steps;
  path : (t : Step) → slice_get l.steps l.at ≡ Some t → IsPath l.doc l.u (l.chain.items ++ t.instance ∷ []);
}

abbrev pub decreases-loop-chain : goal.decreases-loop-chain
decreases-loop-chain l = l.at
