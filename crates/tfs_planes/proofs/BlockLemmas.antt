-- Lemmas about the rows of a plane after a block of rows is closed and taken in.
use Rattle.std.proofs.Common.{◌≡◌, ◌↔◌, ℕ, ◌+◌, ◌-◌, ◌*◌, ◌<◌, ◌≤◌, Bool, IsTrue, List, ◌++◌, length, ap, sym, subst, ◌∙◌, inl, inr, arith}
use Rattle.std.proofs.lemmas.Bool.{cases_lt}
use Rattle.tfs_planes.specs.Plane.{row_words, cell_at}
use Rattle.tfs_planes.specs.Rounds.{AllJoins, BlockJoins, JoinsBelow, IsClosedBlock, TakesIn}
use Rattle.tfs_planes.specs.Row.{bit_at_word}
use Rattle.tfs_planes.proofs.PlaneLemmas.{row_words_front, row_words_back}
use Rattle.tfs_planes.proofs.WalkLemmas.{joins_below_more, joins_below_through, joins_below_first}

-- If the rows of a block represent the walks with inner numbers below the block's end, the block is
-- closed.
closed_block : (s first width : ℕ) (block : List ℕ) (related : ℕ → ℕ → Bool) → BlockJoins s block width first related (first + width) →
    IsClosedBlock s block width first
closed_block s first width block related inv a b j first_in second_in to on =
    let R : ℕ → ℕ → Type 0 = λ x y. IsTrue (related x y) in
    (inv a j first_in).1 (joins_below_through R (first + width) (first + b) (first + a) j (omega arith) ((inv a (first + b) first_in).0 to)
    ((inv b j second_in).0 on))

-- A row that takes in the rows of a closed block represents the walks with inner numbers below the
-- block's end.
takes_walks : (s first width i : ℕ) (row block : List ℕ) (related : ℕ → ℕ → Bool) →
    ((j : ℕ) → IsTrue (bit_at_word row j) ↔ JoinsBelow (λ a b. IsTrue (related a b)) first i j) → BlockJoins s block width first related (first + width) →
    (j : ℕ) → TakesIn s row block width first j ↔ JoinsBelow (λ a b. IsTrue (related a b)) (first + width) i j
takes_walks s first width i row block related own inv j =
    let R : ℕ → ℕ → Type 0 = λ x y. IsTrue (related x y) in (
      λ takes. elim takes [
        | inl has ↦ joins_below_more R first (first + width) i j (omega arith) ((own j).0 has)
        | inr through ↦
            let k = through.0 in
            let below : k < width = through.1 in
            joins_below_through R (first + width) (first + k) i j (omega arith)
            (joins_below_more R first (first + width) i (first + k) (omega arith) ((own (first + k)).0 through.2)) ((inv k j below).0 through.3)
      ],
      λ walk. elim (joins_below_first R first (first + width) i j walk.0 walk.1 walk.2) [
        | inl avoids ↦ inl ((own j).1 avoids)
        | inr comes ↦
            let k = comes.0 - first in
            let from : first ≤ comes.0 = comes.1 in
            let to : comes.0 < first + width = comes.2 in
            let place : comes.0 ≡ first + k = omega arith in
            let below : k < width = omega arith in
            inr (
              k,
              below,
              subst (λ m. IsTrue (bit_at_word row m)) place ((own comes.0).1 comes.3),
              (inv k j below).1 (subst (λ m. JoinsBelow R (first + width) m j) place comes.4),
            )
      ],
    )

-- Rows in three parts: before a block, in the block, and after it.
module _ (s first width : ℕ) (front mid behind : List ℕ) (long : length front ≡ first * s) (wide : length mid ≡ width * s) where
  -- A row before the block is a row of the front part.
  row_in_front : (i : ℕ) → i < first → row_words s (front ++ (mid ++ behind)) i ≡ row_words s front i
  row_in_front i below = row_words_front s first i front (mid ++ behind) long below

  -- A row of the block is a row of the middle part.
  row_in_block : (i : ℕ) → i < width → row_words s (front ++ (mid ++ behind)) (first + i) ≡ row_words s mid i
  row_in_block i below = row_words_back s first i front (mid ++ behind) long ∙ row_words_front s width i mid behind wide below

  -- A row after the block is a row of the last part.
  row_behind : (i : ℕ) → row_words s (front ++ (mid ++ behind)) (first + (width + i)) ≡ row_words s behind i
  row_behind i = row_words_back s first (width + i) front (mid ++ behind) long ∙ row_words_back s width i mid behind wide

-- The step for one block.
module _ (s first width : ℕ) (words before block after front mid behind : List ℕ) (whole : words ≡ before ++ (block ++ after))
    (long : length before ≡ first * s) (also : length front ≡ first * s) (wide : length block ≡ width * s) (too : length mid ≡ width * s)
    (blocks : (related : ℕ → ℕ → Bool) → BlockJoins s block width first related first → BlockJoins s mid width first related (first + width))
    (fronts : IsClosedBlock s mid width first → (i j : ℕ) → IsTrue (cell_at s front i j) ↔ TakesIn s (row_words s before i) mid width first j)
    (behinds : IsClosedBlock s mid width first → (i j : ℕ) → IsTrue (cell_at s behind i j) ↔ TakesIn s (row_words s after i) mid width first j) where
  -- The words after the step.
  abbrev now : List ℕ
  now = front ++ (mid ++ behind)

  -- The rows of the block represent the walks with inner numbers below the block's end.
  block_advances : (related : ℕ → ℕ → Bool) → AllJoins s words related first → BlockJoins s mid width first related (first + width)
  unfolding cell_at
  block_advances related inv =
      blocks related
      (λ i j below. let same = ap (λ zs. row_words s zs (first + i)) whole ∙ row_in_block s first width before block after long wide i below in
      subst (λ r. IsTrue (bit_at_word r j) ↔ JoinsBelow (λ a b. IsTrue (related a b)) first (first + i) j) same (inv (first + i) j))

  -- A row outside the block represents the walks with inner numbers below the block's end.
  row_advances : (related : ℕ → ℕ → Bool) → AllJoins s words related first → (i : ℕ) (row : List ℕ) → row_words s words i ≡ row → (j : ℕ) →
      TakesIn s row mid width first j ↔ JoinsBelow (λ a b. IsTrue (related a b)) (first + width) i j
  unfolding cell_at
  row_advances related inv i row same j =
      takes_walks s first width i row mid related
      (λ b. subst (λ r. IsTrue (bit_at_word r b) ↔ JoinsBelow (λ x y. IsTrue (related x y)) first i b) same (inv i b))
      (block_advances related inv) j

  pub all_advance : (related : ℕ → ℕ → Bool) → AllJoins s words related first → AllJoins s now related (first + width)
  unfolding cell_at
  all_advance related inv i j =
      let R : ℕ → ℕ → Type 0 = λ x y. IsTrue (related x y) in
      let inner = block_advances related inv in
      let closed = closed_block s first width mid related inner in
      elim (cases_lt i first) [
        | inl below ↦
            let is = row_in_front s first width front mid behind also too i below in
            let was = ap (λ zs. row_words s zs i) whole ∙ row_in_front s first width before block after long wide i below in
            let takes = fronts closed i j in
            let walks = row_advances related inv i (row_words s before i) was j in
            (λ h. walks.0 (takes.0 (ap (λ r. bit_at_word r j) (sym is) ∙ h)), λ walk. ap (λ r. bit_at_word r j) is ∙ takes.1 (walks.1 walk))
        | inr past ↦ elim (cases_lt (i - first) width) [
          | inl within ↦
              let place : i ≡ first + (i - first) = omega arith in
              let is = ap (row_words s now) place ∙ row_in_block s first width front mid behind also too (i - first) within in
              let walks = subst (λ p. IsTrue (bit_at_word (row_words s mid (i - first)) j) ↔ JoinsBelow R (first + width) p j) (sym place)
              (inner (i - first) j within) in
              (λ h. walks.0 (ap (λ r. bit_at_word r j) (sym is) ∙ h), λ walk. ap (λ r. bit_at_word r j) is ∙ walks.1 walk)
          | inr beyond ↦
              let q = i - first - width in
              let place : i ≡ first + (width + (i - first - width)) = omega arith in
              let is = ap (row_words s now) place ∙ row_behind s first width front mid behind also too q in
              let was = ap (λ zs. row_words s zs i) whole ∙ ap (row_words s (before ++ (block ++ after))) place
              ∙ row_behind s first width before block after long wide q in
              let takes = behinds closed q j in
              let walks = row_advances related inv i (row_words s after q) was j in
              (λ h. walks.0 (takes.0 (ap (λ r. bit_at_word r j) (sym is) ∙ h)), λ walk. ap (λ r. bit_at_word r j) is ∙ takes.1 (walks.1 walk))
        ]
      ]
