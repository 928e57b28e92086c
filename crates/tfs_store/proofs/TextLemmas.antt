-- Lemmas about numbers in texts.
use Rattle.std.proofs.Common.{◌≡◌, ℕ, ◌<◌, ◌^◌, List, ◌∷◌, ◌++◌, length, get_or, Option, Bor, arith}
use Rattle.std.specs.Prelude.{◌≢◌, decimal, MatchOption}
use Rattle.std.specs.Int.{IsInRange}
use Rattle.std.proofs.lemmas.Fmt.{decimal_is_IsNumeral}
use Rattle.std.proofs.lemmas.Str.Parse.{digit_at}
use Rattle.std.proofs.lemmas.Str.Pattern.{IsSplitOnceResult, split_after}

-- No digit is a mark below `0`.
no_mark : (n mark : ℕ) → n < 2 ^ 64 → mark < 48 → (i : ℕ) → i < length (decimal n) → get_or (decimal n) i 0 ≢ mark
no_mark n mark fits small i below same =
    let digit : IsInRange 48 57 (get_or (decimal n) i 0) = digit_at (decimal n) i (decimal_is_IsNumeral n fits).0.1 below in
    omega arith

-- A text was split into a number and this rest.
abbrev pub IsSplit : ℕ → List ℕ → Option (Bor (List ℕ) × Bor (List ℕ)) → Type 0
IsSplit n rest r = MatchOption r ⊥ (λ x. (x.0.now ≡ decimal n) × (x.1.now ≡ rest))

-- The first mark of a number, a mark and a rest is the one after the number.
pub split_number : (n mark : ℕ) (bs rest : List ℕ) (r : Option (Bor (List ℕ) × Bor (List ℕ))) → IsSplitOnceResult mark bs r → n < 2 ^ 64 → mark < 48
    → bs ≡ decimal n ++ (mark ∷ rest) → IsSplit n rest r
split_number n mark bs rest r given fits small are =
    split_after mark bs (decimal n) rest r given (omega arith) are (no_mark n mark fits small)
