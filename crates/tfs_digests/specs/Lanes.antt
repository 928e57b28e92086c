-- Four messages side by side: each word is a vector with one lane per message.
use Rattle.std.specs.Prelude.{ℕ, List, [], ◌∷◌, slice_index, slice_index_or}

-- Lane j of vector k.
abbrev pub lane_at : List (List ℕ) → ℕ → ℕ → ℕ
lane_at x k j = slice_index (slice_index_or x k []) j

-- The four words of the hash value of message j.
abbrev pub hash_of : ℕ → List (List ℕ) → List ℕ
hash_of j x = lane_at x 0 j ∷ lane_at x 1 j ∷ lane_at x 2 j ∷ lane_at x 3 j ∷ []

-- The sixteen words of a block of message j.
abbrev pub words_of : ℕ → List (List ℕ) → List ℕ
words_of j x =
    lane_at x 0 j ∷ lane_at x 1 j ∷ lane_at x 2 j ∷ lane_at x 3 j
    ∷ lane_at x 4 j ∷ lane_at x 5 j ∷ lane_at x 6 j ∷ lane_at x 7 j
    ∷ lane_at x 8 j ∷ lane_at x 9 j ∷ lane_at x 10 j ∷ lane_at x 11 j
    ∷ lane_at x 12 j ∷ lane_at x 13 j ∷ lane_at x 14 j ∷ lane_at x 15 j ∷ []
