use Rattle.std.proofs.Common.{◌≡◌, ℕ, [], ◌∷◌, ◌<◌, ◌*◌, length, slice_index_or}
use Rattle.md5.specs.Md5.{word_at}
use Rattle.tfs_digests.proofs.texts.words_of.Given as goal

abbrev pub invariant-load : goal.invariant-load
invariant-load l = (length l.w ≡ 16) × ((k : ℕ) → k < l.i
    → slice_index_or l.w k [] ≡ word_at l.a (4 * k) ∷ word_at l.b (4 * k) ∷ word_at l.c (4 * k) ∷ word_at l.d (4 * k) ∷ [])
