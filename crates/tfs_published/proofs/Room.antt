-- Lemmas about operations that change nothing.
use Rattle.std.proofs.Common.{◌≡◌, List, [], ◌∷◌, ◌++◌, fold, ◌∙◌, ap}
use Rattle.std.proofs.lemmas.List.Sums.{fold-append}
use Rattle.tfs_published.specs.Published.{absorbed}
use Rattle.tfs_published.specs.declared.operation.Operation.{Operation}
use Rattle.tfs_published.specs.declared.operation.Operation.TheVariants.{Nothing}
use Rattle.tfs_published.specs.declared.view.CopyView.{CopyView}

-- If queued operations change nothing, they change nothing with `Nothing` appended.
pub nothing_more : (copy : CopyView) (queued after : List Operation) → fold absorbed copy queued ≡ copy → after ≡ queued ++ Nothing ∷ []
    → fold absorbed copy after ≡ copy
nothing_more copy queued after same is = ap (fold absorbed copy) is ∙ (fold-append absorbed copy queued (Nothing ∷ []) ∙ same)
