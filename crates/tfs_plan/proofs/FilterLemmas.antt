-- Lemmas about the numbers that pass a test.
use Rattle.std.proofs.Common.{◌≡◌, ◌∙◌, ◌+◌, ℕ, Bool, true, false, List, [], ◌∷◌, ◌++◌, filter, sym}
use Rattle.std.specs.Prelude.{if◌then◌else◌}
use Rattle.std.specs.List.{range_with_len}
use Rattle.tfs_planes.proofs.BitLemmas.{filter_range_takes, filter_range_skips}

-- The next number is appended if it passes.
pub filter_step : (p : ℕ → Bool) (n : ℕ) (xs ys : List ℕ) (passes : Bool) → passes ≡ p n
    → ys ≡ (if passes then xs ++ n ∷ [] else xs) → xs ≡ filter p (range_with_len 0 n) → ys ≡ filter p (range_with_len 0 (n + 1))
filter_step p n xs ys true same is so_far = is ∙ filter_range_takes p n xs (sym same) so_far
filter_step p n xs ys false same is so_far = is ∙ filter_range_skips p n xs (sym same) so_far
