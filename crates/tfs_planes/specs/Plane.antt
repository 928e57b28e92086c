-- Planes of bits: the rows in a list of words, stored consecutively, and the relation that
-- contracts use.
use Rattle.std.specs.Prelude.{◌≡◌, ℕ, ◌*◌, ◌≤◌, Bool, if◌then◌else◌, List, take, drop, map, bit_or}
use Rattle.std.specs.FinSet.{from_list}
use Rattle.std.specs.List.{flat_map, range_with_len}
use Rattle.std.specs.Simd.Lanes.{zip2}
use Rattle.tfs_planes.specs.Relation.{Relation}
use Rattle.tfs_planes.specs.Row.{bit_at_word, members_of, row_length, IsClearFrom}

-- Row i of rows that have `length` words each.
unfoldable pub row_words : ℕ → List ℕ → ℕ → List ℕ
row_words length words i = take length (drop (i * length) words)

-- True if bit j of row i is set.
unfoldable pub cell_at : ℕ → List ℕ → ℕ → ℕ → Bool
cell_at length words i j = bit_at_word (row_words length words i) j

-- A row after it is united with another if its bit k is set; otherwise the row unchanged.
unfoldable pub row_through : List ℕ → ℕ → List ℕ → List ℕ
row_through other k row = if bit_at_word row k then zip2 bit_or row other else row

-- The pairs (i, j) of numbers below n for which bit j of row i is set.
unfoldable pub pairs_of : ℕ → List ℕ → List (ℕ × ℕ)
pairs_of n words = flat_map (λ i. map (λ j. (i, j)) (members_of n (row_words (row_length n) words i))) (range_with_len 0 n)

-- The invariant of a plane's size and words: one row for each number below the size, and no bit
-- beyond the size.
pub record IsPlane (n : ℕ) (len : ℕ) (words : List ℕ) : Type 0 where
  pub within : n ≤ 4096
  pub long : len ≡ n * row_length n
  pub clear : (i : ℕ) → IsClearFrom n (row_words (row_length n) words i)

-- The relation that a plane's words represent.
abbrev pub relation_of : ℕ → List ℕ → Relation
relation_of n words = record { size = n; pairs = from_list (pairs_of n words) }
