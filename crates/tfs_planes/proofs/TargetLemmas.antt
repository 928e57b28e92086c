-- Lemmas about rows that take in the rows of their targets.
use Rattle.std.proofs.Common.{◌≡◌, ◌≢◌, ◌↔◌, ◌⊎◌, ℕ, ◌+◌, ◌-◌, ◌*◌, ◌/◌, ◌%◌, ◌^◌, ◌<◌, ◌≤◌, min, ◌||◌, eqb, IsTrue, List}
use Rattle.std.proofs.Common.{length, get_or, replicate, bit_and, bit_or, w64, ap, sym, subst, ◌∙◌, inl, inr, arith}
use Rattle.std.proofs.lemmas.Bool.{cases_eq, cases_lt, or_cases, or_left, or_right, false≢true, eqb-true, eq-eqb}
use Rattle.std.proofs.lemmas.Nat.{and_le_l}
use Rattle.std.proofs.lemmas.Nat.Bits.{bit_at_and, bit_at_not, bit_at-lt, bit_at-zero, bit_at_above, bit_at_clear_same, bit_at_clear_other, bit_at-pow_other}
use Rattle.std.specs.Int.{bit_at, bit_not}
use Rattle.std.specs.Simd.Lanes.{zip2, chunk}
use Rattle.tfs_planes.specs.Plane.{row_words, cell_at}
use Rattle.tfs_planes.specs.Row.{bit_at_word}
use Rattle.tfs_planes.specs.Targets.{IsTarget, ArePlacedClosed, HasCome, Gathers}
use Rattle.tfs_planes.proofs.BitLemmas.{bit_at_word-union, bit_at_word-zeros, bit_of_word, covered_bit}
use Rattle.tfs_planes.proofs.TakeLemmas.{bits_left, bit_at_left}

-- A set bit of a word is a target if its number is not the row itself.
target_bit : (own : List ℕ) (row word k : ℕ) → k < 64 → 64 * word + k ≢ row → (bit_at (get_or own word 0) k ≡ 1) ↔ IsTarget own row (64 * word + k)
target_bit own row word k below other = (
  λ one. (bit_of_word word k own below ∙ eq-eqb _ 1 one, other),
  λ target. eqb-true _ 1 (sym (bit_of_word word k own below) ∙ target.0),
)

-- The targets in the word with the row's own bit are the set bits without that bit.
pub targets_of_own_word : (own : List ℕ) (row word k : ℕ) → get_or own word 0 < 2 ^ 64 → word ≡ row / 64 → k < 64 →
    (bit_at (bit_and (get_or own word 0) (bit_not w64 (1 * 2 ^ (row % 64) % 2 ^ 64))) k ≡ 1) ↔ IsTarget own row (64 * word + k)
targets_of_own_word own row word k fits here below =
    let bits = get_or own word 0 in
    elim (cases_eq k (row % 64)) [
      | inl same ↦
          let none = bit_at_clear_same w64 bits (row % 64) (omega arith) in
          let clear = ap (bit_at (bit_and bits (bit_not w64 (1 * 2 ^ (row % 64) % 2 ^ 64)))) same ∙ none in
          (λ one. absurd (omega arith), λ target. absurd (target.1 (omega arith)))
      | inr other ↦
          let kept = bit_at_clear_other w64 bits (row % 64) (omega arith) k below other in
          let bit = target_bit own row word k below (λ same. other (omega arith)) in
          (λ one. bit.0 (sym kept ∙ one), λ target. kept ∙ bit.1 target)
    ]

-- The targets in any other word are all its set bits.
pub targets_of_word : (own : List ℕ) (row word k : ℕ) → word ≢ row / 64 → k < 64 → (bit_at (get_or own word 0) k ≡ 1) ↔ IsTarget own row (64 * word + k)
targets_of_word own row word k apart below = target_bit own row word k below (λ same. apart (omega arith))

-- The rows of the targets in one word are collected, except those in `left`.
pub record TakesWord (s : ℕ) (words own : List ℕ) (row : ℕ) (before now : List ℕ) (word left : ℕ) : Type 0 where
  pub come : HasCome s words own row now
  pub keeps : (j : ℕ) → IsTrue (bit_at_word before j) → IsTrue (bit_at_word now j)
  pub rest : (k : ℕ) → k < 64 → IsTarget own row (64 * word + k) → (bit_at left k ≡ 1) ⊎
      ((j : ℕ) → IsTrue (cell_at s words (64 * word + k) j) → IsTrue (bit_at_word now j))

-- The bits of one number that are not in another.
abbrev pub bits_without : ℕ → ℕ → ℕ
bits_without bits others = bit_and bits (bit_not w64 others)

-- A bit is in the difference if it is in the first number and not in the other.
bit_at_without : (bits others k : ℕ) → others < 2 ^ 64 → k < 64 → bit_at (bits_without bits others) k ≡ min (bit_at bits k) (1 - bit_at others k)
bit_at_without bits others k fits below = bit_at_and bits (bit_not w64 others) k ∙ ap (min (bit_at bits k)) (bit_at_not w64 others k fits below)

-- A bit that is set in both words at `at` is set in both lists.
pub number_common : (words others : List ℕ) (at k : ℕ) → k < 64 → bit_at (bit_and (get_or words at 0) (get_or others at 0)) k ≡ 1 →
    IsTrue (bit_at_word words (at * 64 + k)) × IsTrue (bit_at_word others (at * 64 + k))
number_common words others at k below one =
    let place : at * 64 + k ≡ 64 * at + k = omega arith in
    let both = bit_at_and (get_or words at 0) (get_or others at 0) k in
    let two = bit_at-lt (get_or words at 0) k in
    let also = bit_at-lt (get_or others at 0) k in (
      ap (bit_at_word words) place ∙ bit_of_word at k words below ∙ eq-eqb _ 1 (omega arith),
      ap (bit_at_word others) place ∙ bit_of_word at k others below ∙ eq-eqb _ 1 (omega arith),
    )

-- The remaining bits are targets, and they are placed if no bit is missing in `placed`.
pub left_within : (bits others placed k : ℕ) → bits < 2 ^ 64 → others < 2 ^ 64 → placed < 2 ^ 64 → bits_without (bits_without bits others) placed ≡ 0 →
    bit_at (bits_without bits others) k ≡ 1 →
    (k < 64) × (bit_at bits k ≡ 1) × (bit_at placed k ≡ 1)
left_within bits others placed k fits also too none is =
    elim (cases_lt k 64) [
      | inl below ↦
          let left = bit_at_without bits others k also below in
          let missing = bit_at_without (bits_without bits others) placed k too below in
          let clear = ap (λ n. bit_at n k) none ∙ bit_at-zero k in
          let two = bit_at-lt bits k in
          let placed_two = bit_at-lt placed k in
          (below, omega arith, omega arith)
      | inr past ↦
          let short = bit_at_above (bits_without bits others) 64 k (omega (arith, and_le_l bits (bit_not w64 others))) past in
          absurd (omega arith)
    ]

-- At the start of a word, the remaining bits are the targets that have not been collected.
pub takes_word_start : (s : ℕ) (words own : List ℕ) (row : ℕ) (came : List ℕ) (word bits : ℕ) → get_or came word 0 < 2 ^ 64 →
    ((k : ℕ) → k < 64 → (bit_at bits k ≡ 1) ↔ IsTarget own row (64 * word + k)) →
    HasCome s words own row came → TakesWord s words own row came came word (bits_without bits (get_or came word 0))
takes_word_start s words own row came word bits fits targets come = record {
  come = come;
  keeps = λ j is. is;
  rest = λ k below target.
      let others = get_or came word 0 in
      let left = bit_at_without bits others k fits below in
      let one = (targets k below).1 target in
      let two = bit_at-lt others k in
      elim (cases_eq (bit_at others k) 1) [
        | inl has ↦ inr (λ j cell. come.closed (64 * word + k) j (bit_of_word word k came below ∙ eq-eqb _ 1 has) cell)
        | inr none ↦ inl (omega arith)
      ];
}

-- The collected bits united with one target's row.
module _ (s : ℕ) (words own : List ℕ) (row : ℕ) (placed now : List ℕ) (t : ℕ) (closed : ArePlacedClosed s words placed) (come : HasCome s words own row now)
    (target : IsTarget own row t) (is_placed : IsTrue (bit_at_word placed t)) (long : length now ≡ length (row_words s words t)) (after : List ℕ)
    (made : after ≡ zip2 bit_or now (row_words s words t)) where
  -- A bit is set if it was set before or is set in the target's row.
  united : (j : ℕ) → bit_at_word after j ≡ (bit_at_word now j || bit_at_word (row_words s words t) j)
  united j = ap (λ zs. bit_at_word zs j) made ∙ bit_at_word-union now (row_words s words t) j long

  -- The bits that were set stay set.
  keeps_more : (j : ℕ) → IsTrue (bit_at_word now j) → IsTrue (bit_at_word after j)
  keeps_more j is = united j ∙ or_left (bit_at_word now j) (bit_at_word (row_words s words t) j) is

  -- The bits of the target's row are set.
  covers_more : (j : ℕ) → IsTrue (cell_at s words t j) → IsTrue (bit_at_word after j)
  unfolding cell_at
  covers_more j is = united j ∙ or_right (bit_at_word now j) (bit_at_word (row_words s words t) j) is

  -- The collected bits keep their invariant.
  come_more : HasCome s words own row after
  unfolding cell_at
  come_more = record {
    sound = λ j is. elim (or_cases (bit_at_word now j) (bit_at_word (row_words s words t) j) (sym (united j) ∙ is)) [
      | inl had ↦ come.sound j had
      | inr brought ↦ inr (t, target, brought)
    ];
    closed = λ a b is cell. elim (or_cases (bit_at_word now a) (bit_at_word (row_words s words t) a) (sym (united a) ∙ is)) [
      | inl had ↦ keeps_more b (come.closed a b had cell)
      | inr brought ↦ covers_more b (closed t a b is_placed brought cell)
    ];
  }

-- One step: the row of target k of a word is added.
pub takes_word_more : (s : ℕ) (words own : List ℕ) (row : ℕ) (placed before now after : List ℕ) (word left k : ℕ) → ArePlacedClosed s words placed →
    TakesWord s words own row before now word left → k < 64 →
    IsTarget own row (64 * word + k) → IsTrue (bit_at_word placed (64 * word + k)) → length now ≡ length (row_words s words (64 * word + k)) →
    after ≡ zip2 bit_or now (row_words s words (64 * word + k)) → get_or after word 0 < 2 ^ 64 →
    TakesWord s words own row before after word (bits_left left (get_or after word 0) k)
takes_word_more s words own row placed before now after word left k closed takes below target is_placed long made fits =
    let t = 64 * word + k in
    let others = get_or after word 0 in
    let keeps = keeps_more s words own row placed now t closed takes.come target is_placed long after made in
    let covers = covers_more s words own row placed now t closed takes.come target is_placed long after made in
    let come : HasCome s words own row after = come_more s words own row placed now t closed takes.come target is_placed long after made in
    record {
      come = come;
      keeps = λ j is. keeps j (takes.keeps j is);
      rest = λ m under other. elim (takes.rest m under other) [
        | inl waits ↦ elim (cases_eq m k) [
          | inl this ↦ inr (λ j cell. covers j (subst (λ p. IsTrue (cell_at s words (64 * word + p) j)) this cell))
          | inr another ↦ elim (cases_eq (bit_at others m) 1) [
            | inl has ↦ inr (λ j cell. come.closed (64 * word + m) j (bit_of_word word m after under ∙ eq-eqb _ 1 has) cell)
            | inr none ↦ inl (left_bit left others k m below fits under another waits none)
          ]
        ]
        | inr has ↦ inr (λ j cell. keeps j (has j cell))
      ];
    }
  where
    left_bit : (bits others k m : ℕ) → k < 64 → others < 2 ^ 64 → m < 64 → m ≢ k → bit_at bits m ≡ 1 → bit_at others m ≢ 1 →
        bit_at (bits_left bits others k) m ≡ 1
    left_bit bits others k m below fits under another waits none =
        let stays = bit_at_left bits others k m below fits under in
        let apart = bit_at-pow_other k m another in
        let two = bit_at-lt others m in
        omega arith

-- When no bit of a word remains, the rows of its targets are collected.
pub gathers_word : (s : ℕ) (words own : List ℕ) (row : ℕ) (before now : List ℕ) (word left : ℕ) → left ≡ 0 →
    TakesWord s words own row before now word left → Gathers s words own row before now (64 * word) (64 * word + 64)
gathers_word s words own row before now word left none takes = record {
  come = takes.come;
  keeps = takes.keeps;
  covers = λ t j low high target cell.
      let k = t - 64 * word in
      let place : t ≡ 64 * word + k = omega arith in
      let below : k < 64 = omega arith in
      elim (takes.rest k below (subst (IsTarget own row) place target)) [
        | inl waits ↦ let zero = ap (λ n. bit_at n k) none ∙ bit_at-zero k in absurd (omega arith)
        | inr has ↦ has j (subst (λ p. IsTrue (cell_at s words p j)) place cell)
      ];
}

-- An empty range of targets needs no rows.
pub gathers_none : (s : ℕ) (words own : List ℕ) (row : ℕ) (came : List ℕ) (at : ℕ) → HasCome s words own row came → Gathers s words own row came came at at
gathers_none s words own row came at come = record { come = come; keeps = λ j is. is; covers = λ t j low high target cell. absurd (omega arith) }

-- Two adjacent ranges of targets, the higher one collected first, make one range.
pub gathers_more : (s : ℕ) (words own : List ℕ) (row : ℕ) (before mid now : List ℕ) (low middle high : ℕ) →
    Gathers s words own row before mid middle high → Gathers s words own row mid now low middle →
    Gathers s words own row before now low high
gathers_more s words own row before mid now low middle high first second = record {
  come = second.come;
  keeps = λ j is. second.keeps j (first.keeps j is);
  covers = λ t j over under target cell. elim (cases_lt t middle) [
    | inl lower ↦ second.covers t j over lower target cell
    | inr upper ↦ second.keeps j (first.covers t j upper under target cell)
  ];
}

-- The targets of the next block extend the range, for a block with the row length of the plane.
pub gathers_block : (s n : ℕ) (words own : List ℕ) (row : ℕ) (placed before mid now : List ℕ) (low middle top high : ℕ) → n ≡ s → middle ≡ top →
    Gathers s words own row before mid top high →
    (ArePlacedClosed n words placed → HasCome n words own row mid → Gathers n words own row mid now low middle) → ArePlacedClosed s words placed →
    Gathers s words own row before now low high
gathers_block s n words own row placed before mid now low middle top high same meets first step closed =
    let turned = subst (λ m. ArePlacedClosed m words placed → HasCome m words own row mid → Gathers m words own row mid now low middle) same step in
    gathers_more s words own row before mid now low top high first (subst (λ m. Gathers s words own row mid now low m) meets (turned closed first.come))

-- If all targets of a lane block are collected bits, their rows are collected too.
pub gathers_skip : (s : ℕ) (words own : List ℕ) (row : ℕ) (came : List ℕ) (at : ℕ) → at + 8 ≤ length own → at + 8 ≤ length came →
    zip2 bit_or (chunk at 8 own) (chunk at 8 came) ≡ chunk at 8 came →
    HasCome s words own row came → Gathers s words own row came came (64 * at) (64 * (at + 8))
gathers_skip s words own row came at long also same come = record {
  come = come;
  keeps = λ j is. is;
  covers = λ t j low high target cell. come.closed t j (covered_bit at own came long also same t low high target.0) cell;
}

-- If no bit of the row's word remains outside the collected bits, the rows of its targets are
-- collected.
pub gathers_had : (s : ℕ) (words own : List ℕ) (row : ℕ) (came : List ℕ) (word : ℕ) → get_or came word 0 < 2 ^ 64 →
    bits_without (get_or own word 0) (get_or came word 0) ≡ 0 →
    HasCome s words own row came → Gathers s words own row came came (64 * word) (64 * word + 64)
gathers_had s words own row came word fits none come = record {
  come = come;
  keeps = λ j is. is;
  covers = λ t j low high target cell.
      let k = t - 64 * word in
      let place : 64 * word + k ≡ t = omega arith in
      let below : k < 64 = omega arith in
      let left = bit_at_without (get_or own word 0) (get_or came word 0) k fits below in
      let zero = ap (λ n. bit_at n k) none ∙ bit_at-zero k in
      let set = eqb-true _ 1 (sym (bit_of_word word k own below) ∙ ap (bit_at_word own) place ∙ target.0) in
      let two = bit_at-lt (get_or came word 0) k in
      come.closed t j (sym (ap (bit_at_word came) place) ∙ bit_of_word word k came below ∙ eq-eqb _ 1 (omega arith)) cell;
}

-- At the start nothing is collected.
pub come_none : (s : ℕ) (words own : List ℕ) (row n : ℕ) → HasCome s words own row (replicate n 0)
come_none s words own row n = record {
  sound = λ j is. absurd (false≢true (sym (bit_at_word-zeros n j) ∙ is));
  closed = λ a b is cell. absurd (false≢true (sym (bit_at_word-zeros n a) ∙ is));
}

-- The collected bits include the rows of all targets, for the row's length and words as they were
-- lent.
pub gathers_all : (s n : ℕ) (words own lent : List ℕ) (row : ℕ) (placed first came : List ℕ) → n ≡ s → lent ≡ own →
    (ArePlacedClosed s words placed → HasCome s words lent row first) →
    (ArePlacedClosed n words placed → HasCome n words lent row first → Gathers n words lent row first came 0 (64 * n)) →
    ArePlacedClosed s words placed → Gathers s words own row first came 0 (64 * s)
gathers_all s n words own lent row placed first came same is begins rest closed =
    let all : Gathers s words lent row first came 0 (64 * s) = subst (λ k. ArePlacedClosed k words placed → HasCome k words lent row first →
    Gathers k words lent row first came 0 (64 * k)) same rest closed (begins closed) in
    subst (λ r. Gathers s words r row first came 0 (64 * s)) is all

-- After the row of a placed target is collected with the target's own bit, the invariant holds.
pub come_target : (s : ℕ) (words own : List ℕ) (row : ℕ) (placed : List ℕ) (t : ℕ) (mid also : List ℕ) → ArePlacedClosed s words placed →
    IsTarget own row t → IsTrue (bit_at_word placed t) → mid ≡ row_words s words t →
    ((j : ℕ) → bit_at_word also j ≡ (eqb j t || bit_at_word mid j)) → HasCome s words own row also
unfolding cell_at
come_target s words own row placed t mid also closed target is_placed made bits =
    let cell = λ (j : ℕ) (is : IsTrue (bit_at_word mid j)). ap (λ zs. bit_at_word zs j) (sym made) ∙ is in
    let has = λ (j : ℕ) (is : IsTrue (bit_at_word (row_words s words t) j)). bits j
    ∙ or_right (eqb j t) (bit_at_word mid j) (ap (λ zs. bit_at_word zs j) made ∙ is) in
    record {
      sound = λ j is. elim (or_cases (eqb j t) (bit_at_word mid j) (sym (bits j) ∙ is)) [
        | inl same ↦ inl (subst (λ p. IsTrue (bit_at_word own p)) (sym (eqb-true j t same)) target.0)
        | inr had ↦ inr (t, target, cell j had)
      ];
      closed = λ a b is on. elim (or_cases (eqb a t) (bit_at_word mid a) (sym (bits a) ∙ is)) [
        | inl same ↦ has b (subst (λ p. IsTrue (bit_at_word (row_words s words p) b)) (eqb-true a t same) on)
        | inr had ↦ has b (closed t a b is_placed (cell a had) on)
      ];
    }
