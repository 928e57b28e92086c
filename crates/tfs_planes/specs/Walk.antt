-- Walks over a relation.
use Rattle.std.specs.Prelude.{ℕ, ◌+◌, ◌<◌, ◌≤◌, List, [], ◌∷◌, ◌++◌, length, slice_index}

-- A walk: a list of at least two numbers in which each is related to the next.
abbrev pub IsWalk : (ℕ → ℕ → Type 0) → List ℕ → Type 0
IsWalk R walk = (2 ≤ length walk) × ((k : ℕ) → k + 1 < length walk → R (slice_index walk k) (slice_index walk (k + 1)))

-- A walk leads from i to j: it begins with i and ends with j.
abbrev pub Joins : (ℕ → ℕ → Type 0) → ℕ → ℕ → Type 0
Joins R i j = (between : List ℕ) × IsWalk R (i ∷ between ++ j ∷ [])
