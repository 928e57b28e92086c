-- Lemmas about one round of the closure, and about all rounds together.
use Rattle.std.proofs.Common.{◌≡◌, ◌≢◌, ◌↔◌, ℕ, ◌+◌, ◌-◌, ◌*◌, ◌<◌, Bool, true, false, ◌||◌, eqb, IsTrue, List, [], ◌++◌, length, bit_or, ap, ap₂}
use Rattle.std.proofs.Common.{sym, subst, ◌∙◌, inl, inr, arith}
use Rattle.std.proofs.Math.Nat.{mul-le-mul_right}
use Rattle.std.proofs.lemmas.Bool.{cases_lt, cases_eq, cases_Bool, cond-true, cond-false, or_cases, or_left, or_right, false≢true, ne_eqb}
use Rattle.std.specs.Simd.Lanes.{zip2}
use Rattle.tfs_planes.specs.Plane.{row_words, cell_at, row_through}
use Rattle.tfs_planes.specs.Row.{bit_at_word}
use Rattle.tfs_planes.specs.Rounds.{AllJoins, BlockJoins, JoinsBelow}
use Rattle.tfs_planes.specs.Walk.{Joins}
use Rattle.tfs_planes.proofs.BitLemmas.{bit_at_word-union, bit_at_word-past}
use Rattle.tfs_planes.proofs.PlaneLemmas.{row_fits, length-row_words, row_words_past, row_words_front, row_words_behind, row_words_mid}
use Rattle.tfs_planes.proofs.WalkLemmas.{joins_below_zero, joins_below_one_pair, joins_below_more, joins_below_through, joins_below_cases}
use Rattle.tfs_planes.proofs.WalkLemmas.{joins_from_below, joins_below_from_joins}

-- A row is unchanged if its bit k is not set.
pub row_through_clear : (other : List ℕ) (k : ℕ) (row : List ℕ) → bit_at_word row k ≡ false → row_through other k row ≡ row
unfolding row_through
row_through_clear other k row clear = cond-false (bit_at_word row k) (zip2 bit_or row other) row clear

-- A row is united with the other row if its bit k is set.
pub row_through_set : (other : List ℕ) (k : ℕ) (row : List ℕ) → bit_at_word row k ≡ true → row_through other k row ≡ zip2 bit_or row other
unfolding row_through
row_through_set other k row is = cond-true (bit_at_word row k) (zip2 bit_or row other) row is

-- The empty row is unchanged.
pub row_through_nil : (other : List ℕ) (k : ℕ) → row_through other k [] ≡ []
row_through_nil other k = row_through_clear other k [] (bit_at_word-past [] k (omega arith))

-- The rows after a round are the changed rows before row k, row k, and the changed rows after it.
pub round_others : (s k column : ℕ) (words before row after front behind : List ℕ) → words ≡ before ++ (row ++ after) → length before ≡ k * s →
    length front ≡ k * s → length row ≡ s → ((i : ℕ) → row_words s front i ≡ row_through row column (row_words s before i)) →
    ((i : ℕ) → row_words s behind i ≡ row_through row column (row_words s after i)) → (i : ℕ) → i ≢ k →
    row_words s (front ++ (row ++ behind)) i ≡ row_through (row_words s words k) column (row_words s words i)
round_others s k column words before row after front behind whole long also one through too i other =
    let middle : row_words s words k ≡ row = ap (λ zs. row_words s zs k) whole ∙ row_words_mid s k before row after long one in
    elim (cases_lt i k) [
      | inl below ↦
          row_words_front s k i front (row ++ behind) also below ∙ through i
          ∙ ap₂ (λ x y. row_through x column y) (sym middle) (sym (ap (λ zs. row_words s zs i) whole ∙ row_words_front s k i before (row ++ after) long below))
      | inr above ↦
          let place : i ≡ k + 1 + (i - k - 1) = omega arith in
          ap (row_words s (front ++ (row ++ behind))) place
          ∙ row_words_behind s k (i - k - 1) front row behind also one ∙ too (i - k - 1)
          ∙ ap₂ (λ x y. row_through x column y) (sym middle)
          (sym (ap (λ zs. row_words s zs i) whole ∙ ap (row_words s (before ++ (row ++ after))) place
          ∙ row_words_behind s k (i - k - 1) before row after long one))
    ]

-- A set bit is in one of the rows.
pub row_of_set_cell : (s count : ℕ) (words : List ℕ) (i j : ℕ) → length words ≡ count * s → IsTrue (cell_at s words i j) → i < count
unfolding cell_at
row_of_set_cell s count words i j long is =
    elim (cases_lt i count) [
      | inl below ↦ below
      | inr past ↦ absurd (false≢true (sym (ap (λ row. bit_at_word row j) (row_words_past s i words (omega (arith, mul-le-mul_right s past)))
          ∙ bit_at_word-past [] j (omega arith)) ∙ is))
    ]

module _ (s width k first : ℕ) (before now : List ℕ) (long : length before ≡ width * s) (row : k < width)
    (kept : row_words s now k ≡ row_words s before k)
    (others : (i : ℕ) → eqb i k ≡ false → row_words s now i ≡ row_through (row_words s before k) (first + k) (row_words s before i)) where
  -- Row k keeps its bits.
  cell_kept : (i j : ℕ) → i ≡ k → cell_at s now i j ≡ cell_at s before k j
  unfolding cell_at
  cell_kept i j same = ap (λ p. bit_at_word (row_words s now p) j) same ∙ ap (λ r. bit_at_word r j) kept

  -- A row without the bit of row k keeps its bits.
  cell_clear : (i j : ℕ) → i ≢ k → cell_at s before i (first + k) ≡ false → cell_at s now i j ≡ cell_at s before i j
  unfolding cell_at
  cell_clear i j other clear =
      ap (λ r. bit_at_word r j) (others i (ne_eqb i k other) ∙ row_through_clear (row_words s before k) (first + k) (row_words s before i) clear)

  -- A row with the bit of row k gains the bits of row k.
  cell_united : (i j : ℕ) → i ≢ k → cell_at s before i (first + k) ≡ true → cell_at s now i j ≡ (cell_at s before i j || cell_at s before k j)
  unfolding cell_at
  cell_united i j other is =
      let within = row_of_set_cell s width before i (first + k) long is in
      let fits = row_fits i width s within in
      let too = row_fits k width s row in
      ap (λ r. bit_at_word r j) (others i (ne_eqb i k other) ∙ row_through_set (row_words s before k) (first + k) (row_words s before i) is)
      ∙ bit_at_word-union (row_words s before i) (row_words s before k) j
      (length-row_words s i before (omega arith) ∙ sym (length-row_words s k before (omega arith)))

  -- Warshall's step: if the rows represent the walks with inner numbers below first + k, then after
  -- the round they represent those with inner numbers below first + k + 1.
  pub round_walks : (related : ℕ → ℕ → Bool) → BlockJoins s before width first related (first + k) → BlockJoins s now width first related (first + (k + 1))
  round_walks related inv i j below =
      let R : ℕ → ℕ → Type 0 = λ a b. IsTrue (related a b) in
      let bound : first + (k + 1) ≡ first + k + 1 = omega arith in
      let cases = λ (walk : JoinsBelow R (first + (k + 1)) (first + i) j). let turned = subst (λ h. JoinsBelow R h (first + i) j) bound walk in
      joins_below_cases R (first + k) (first + i) j turned.0 turned.1 turned.2 in
      elim (cases_eq i k) [
        | inl same ↦ (
          λ is. joins_below_more R (first + k) (first + (k + 1)) (first + i) j (omega arith)
              (subst (λ p. JoinsBelow R (first + k) (first + p) j) (sym same) ((inv k j row).0 (sym (cell_kept i j same) ∙ is))),
          λ walk. cell_kept i j same ∙ (elim (cases walk) [
            | inl avoids ↦ (inv k j row).1 (subst (λ p. JoinsBelow R (first + k) (first + p) j) same avoids)
            | inr passes ↦ (inv k j row).1 passes.1
          ]),
        )
        | inr other ↦ elim (cases_Bool (cell_at s before i (first + k))) [
          | inl is ↦ (
            λ set. elim (or_cases (cell_at s before i j) (cell_at s before k j) (sym (cell_united i j other is) ∙ set)) [
              | inl own ↦ joins_below_more R (first + k) (first + (k + 1)) (first + i) j (omega arith) ((inv i j below).0 own)
              | inr through ↦
                  joins_below_through R (first + (k + 1)) (first + k) (first + i) j (omega arith)
                  (joins_below_more R (first + k) (first + (k + 1)) (first + i) (first + k) (omega arith) ((inv i (first + k) below).0 is))
                  (joins_below_more R (first + k) (first + (k + 1)) (first + k) j (omega arith) ((inv k j row).0 through))
            ],
            λ walk. cell_united i j other is ∙ (elim (cases walk) [
              | inl avoids ↦ or_left (cell_at s before i j) (cell_at s before k j) ((inv i j below).1 avoids)
              | inr passes ↦ or_right (cell_at s before i j) (cell_at s before k j) ((inv k j row).1 passes.1)
            ]),
          )
          | inr clear ↦ (
            λ set. joins_below_more R (first + k) (first + (k + 1)) (first + i) j (omega arith) ((inv i j below).0 (sym (cell_clear i j other clear) ∙ set)),
            λ walk. cell_clear i j other clear ∙ (elim (cases walk) [
              | inl avoids ↦ (inv i j below).1 avoids
              | inr passes ↦ absurd (false≢true (sym clear ∙ (inv i (first + k) below).1 passes.0))
            ]),
          )
        ]
      ]

-- Before the first block, the walks are single pairs.
pub no_round_walks : (R : ℕ → ℕ → Type 0) (i j : ℕ) → R i j ↔ JoinsBelow R 0 i j
no_round_walks R i j = (joins_below_one_pair R 0 i j, joins_below_zero R i j)

-- After the last block, the rows represent all walks.
pub all_rounds_walks : (s count : ℕ) (words now : List ℕ) → length words ≡ count * s → AllJoins s now (cell_at s words) count → (i j : ℕ) →
    IsTrue (cell_at s now i j) ↔ Joins (λ a b. IsTrue (cell_at s words a b)) i j
all_rounds_walks s count words now long inv i j =
    let R : ℕ → ℕ → Type 0 = λ a b. IsTrue (cell_at s words a b) in (
      λ is. joins_from_below R count i j ((inv i j).0 is),
      λ walk. (inv i j).1 (joins_below_from_joins R count i j (λ a b related. row_of_set_cell s count words a b long related) walk),
    )
