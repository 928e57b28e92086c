-- Counts of durations.
use Rattle.std.specs.Prelude.{ℕ, ◌+◌, ◌^◌, ◌-◌, min, List, [], ◌∷◌, length, get_or, set, position, unwrap_or, nat_le}

-- The sum of two counts, at most 2^64 - 1.
abbrev pub sum_of : ℕ → ℕ → ℕ
sum_of a b = min (a + b) (2 ^ 64 - 1)

-- The upper bounds of the buckets, in microseconds.
abbrev pub bounds : List ℕ
bounds = 100 ∷ 500 ∷ 1000 ∷ 5000 ∷ 10000 ∷ 50000 ∷ 100000 ∷ 500000 ∷ 1000000 ∷ 10000000 ∷ []

-- The number of the first bound that a duration doesn't exceed, or the number of bounds.
abbrev pub bucket_in : List ℕ → ℕ → ℕ
bucket_in bounds micros = unwrap_or (position (λ bound. nat_le micros bound) bounds) (length bounds)

-- The number of the bucket of a duration in microseconds.
abbrev pub bucket_of : ℕ → ℕ
bucket_of micros = bucket_in bounds micros

-- The buckets after one more duration in microseconds.
abbrev pub with_duration : ℕ → List ℕ → List ℕ
with_duration micros buckets = set buckets (bucket_of micros) (sum_of (get_or buckets (bucket_of micros) 0) 1)
