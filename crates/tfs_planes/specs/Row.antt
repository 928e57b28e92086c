-- Rows of bits: the numbers in a list of words, and the set that contracts use for a row.
use Rattle.std.specs.Prelude.{◌≡◌, ℕ, ◌+◌, ◌*◌, ◌/◌, ◌%◌, ◌≤◌, Bool, false, ◌==◌, List, slice_index, filter, refl}
use Rattle.std.specs.List.{range_with_len}
use Rattle.std.specs.Int.{bit_at}
use Rattle.std.specs.Ordering.{nat_cmp}
use Rattle.std.specs.FinSet.{FinSet, contains, from_list, code}
use Rattle.std.specs.Coded.{Coded, code_by, coded×, coded_ℕ}

-- A set of numbers below a size.
pub record NumberSet : Type 0 where
  pub size : ℕ
  pub members : FinSet nat_cmp

-- The members of a set of numbers, in ascending order.
abbrev pub rising_members : NumberSet → List ℕ
rising_members s = filter (contains s.members) (range_with_len 0 s.size)

-- True if bit i of the words is set. Each word has 64 bits, counted from the lowest bit of the
-- first word.
unfoldable pub bit_at_word : List ℕ → ℕ → Bool
bit_at_word words i = bit_at (slice_index words (i / 64)) (i % 64) == 1

-- The numbers below n whose bit is set, in ascending order.
unfoldable pub members_of : ℕ → List ℕ → List ℕ
members_of n words = filter (bit_at_word words) (range_with_len 0 n)

-- The number of words for n bits: whole lanes of 8 words.
abbrev pub row_length : ℕ → ℕ
row_length n = (n + 511) / 512 * 8

-- No bit from n on is set.
abbrev pub IsClearFrom : ℕ → List ℕ → Type 0
IsClearFrom n words = (i : ℕ) → n ≤ i → bit_at_word words i ≡ false

-- The invariant of a row's size and words: the number of words that the size needs, and no bit
-- beyond the size.
pub record IsRow (n : ℕ) (len : ℕ) (words : List ℕ) : Type 0 where
  pub within : n ≤ 4096
  pub long : len ≡ row_length n
  pub clear : IsClearFrom n words

-- The set that a row's words represent.
abbrev pub number_set : ℕ → List ℕ → NumberSet
number_set n words = record { size = n; members = from_list (members_of n words) }

-- The encoding of a set of numbers: its size and its members.
abbrev pub number_set_code : Coded NumberSet
number_set_code =
    code_by (ℕ × FinSet nat_cmp) (coded× coded_ℕ (code coded_ℕ)) (λ s. (s.size, s.members)) (λ p. record { size = p.0; members = p.1 }) (λ _. refl)
