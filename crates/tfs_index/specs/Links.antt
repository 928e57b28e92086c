-- Instances grouped by number, linked from the last to the first.
use Rattle.std.specs.Prelude.{◌≡◌, ℕ, ◌+◌, ◌<◌, ◌≤◌, Bool, true, false, ◌==◌, List, length, slice_get, slice_index, Some}
use Rattle.std.specs.Option.{option_map_or}

-- True if instance v has number k.
abbrev pub has_number : List ℕ → ℕ → ℕ → Bool
has_number numbers k v = option_map_or (λ n. n == k) (slice_get numbers v) false

-- The place is one more than the last instance below `end` that has number k, or 0 if there is
-- none.
pub record IsBehindLast (numbers : List ℕ) (k end place : ℕ) : Type 0 where
  pub within : place ≤ end
  pub here : (v : ℕ) → place ≡ v + 1 → has_number numbers k v ≡ true
  pub behind : (v : ℕ) → place ≤ v → v < end → has_number numbers k v ≡ false

-- For each number, the place of the last instance that has it; for each instance, the place of the
-- last earlier instance with the same number.
pub record AreLinks (numbers lasts befores : List ℕ) : Type 0 where
  pub long : length befores ≡ length numbers
  pub last : (k : ℕ) → IsBehindLast numbers k (length numbers) (slice_index lasts k)
  pub before : (v number : ℕ) → slice_get numbers v ≡ Some number → IsBehindLast numbers number v (slice_index befores v)
