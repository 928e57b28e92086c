use Rattle.std.proofs.Common.{◌≡◌, refl, [], ◌∷◌, slice_index}
use Rattle.tfs_digests.proofs.LaneLemmas.{below_four}
use Rattle.tfs_digests.proofs.StepLemmas.{add32_last}
use Rattle.tfs_digests.proofs.lanes.round.Goals as goal

pub returns : goal.returns
returns c = λ j low.
    let k = c.args.constant in
    let same : slice_index (k ∷ k ∷ k ∷ k ∷ []) j ≡ k = below_four (λ j. slice_index (k ∷ k ∷ k ∷ k ∷ []) j ≡ k) refl refl refl refl j low in
    rw (
      c.add.ensures j low,
      c.rotate_left-turned.ensures j low,
      c.add-sum.ensures j low,
      c.add-known.ensures j low,
      same,
      c.add-read.ensures j low,
      add32_last _ (slice_index c.args.f j) k (slice_index c.args.word j),
    ) refl
