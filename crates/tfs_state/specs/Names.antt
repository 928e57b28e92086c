-- Numbers that represent texts: number n represents text n of a list.
use Rattle.std.specs.Prelude.{◌≡◌, ℕ, List, ◌++◌, slice_get, Some}

-- Equal texts have the same number.
abbrev pub AreApart : List (List ℕ) → Type 0
AreApart names = (m n : ℕ) (text : List ℕ) → slice_get names m ≡ Some text → slice_get names n ≡ Some text → m ≡ n

-- The new texts are the old ones followed by more.
pub record Extends (old new : List (List ℕ)) : Type 0 where
  pub more : List (List ℕ)
  pub grown : new ≡ old ++ more
