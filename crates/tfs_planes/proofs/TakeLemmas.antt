-- Lemmas about a row that takes in the rows of a block: the invariant of the loop, and its step.
use Rattle.std.proofs.Common.{◌≡◌, ◌↔◌, ◌⊎◌, ℕ, ◌+◌, ◌-◌, ◌*◌, ◌/◌, ◌%◌, ◌^◌, ◌<◌, ◌≤◌, min, max, false, eqb, IsTrue, List, [], length, take, drop}
use Rattle.std.proofs.Common.{get_or, bit_and, bit_or, Fits, w64, lit<, ap, ap₂, sym, subst, ◌∙◌, inl, inr, arith}
use Rattle.std.proofs.lemmas.Bool.{cases_eq, cases_lt, cases_Bool, or_cases, or_left, or_right, false≢true, eqb-true, eqb-false, eq-eqb}
use Rattle.std.proofs.lemmas.List.{get_or-take, get_or-drop, get_or_past, length-take}
use Rattle.std.proofs.lemmas.Nat.Bits.{bit_at_and, bit_at_or, bit_at_not, bit_at-lt, bit_at-zero, bit_at_ones, bit_at_ones_above, bit_at-pow_same}
use Rattle.std.proofs.lemmas.Nat.Bits.{bit_at-pow_other, ones_shr}
use Rattle.std.proofs.lemmas.Nat.{and_le_l, one_shl, or_lt, pow_below}
use Rattle.std.specs.Int.{bit_at, bit_not}
use Rattle.std.specs.Simd.Lanes.{zip2}
use Rattle.tfs_planes.specs.Plane.{row_words, cell_at}
use Rattle.tfs_planes.specs.Rounds.{IsClosedBlock, TakesIn}
use Rattle.tfs_planes.specs.Row.{bit_at_word}
use Rattle.tfs_planes.proofs.BitLemmas.{bit_at_word-union, bit_at_word-past}

-- Bit m of the row's word at the block is bit first + m of the row, because a block begins at a
-- whole word.
word_bit : (first m : ℕ) (row : List ℕ) → first % 64 ≡ 0 → m < 64 → bit_at_word row (first + m) ≡ eqb (bit_at (get_or row (first / 64) 0) m) 1
unfolding bit_at_word
word_bit first m row aligned below =
    let word : (first + m) / 64 ≡ first / 64 = omega arith in
    let place : (first + m) % 64 ≡ m = omega arith in
    ap₂ (λ k j. eqb (bit_at (get_or row k 0) j) 1) word place

-- The row was `row` at the start and is `now`; it has taken in each row of the block whose bit it
-- has, except those in `bits`.
pub record TookIn (s : ℕ) (row now block : List ℕ) (width first bits : ℕ) : Type 0 where
  pub sound : (j : ℕ) → IsTrue (bit_at_word now j) → TakesIn s row block width first j
  pub keeps : (j : ℕ) → IsTrue (bit_at_word row j) → IsTrue (bit_at_word now j)
  pub gained : (m : ℕ) → m < width → IsTrue (bit_at_word row (first + m)) →
      (bit_at bits m ≡ 1) ⊎ ((j : ℕ) → IsTrue (cell_at s block m j) → IsTrue (bit_at_word now j))
  pub had : (m : ℕ) → bit_at bits m ≡ 1 → IsTrue (bit_at_word row (first + m))

-- If the smaller of a bit and a number is 1, the bit is 1.
least_one : (a b : ℕ) → a < 2 → min a b ≡ 1 → a ≡ 1
least_one a b below is = omega arith

-- Bit m of a word masked to its lowest `width` bits.
masked_bit : (word width m : ℕ) → 0 < width → width ≤ 64 → bit_at (bit_and word ((2 ^ 64 - 1) / 2 ^ (64 - width))) m ≡ min (bit_at word m)
    (bit_at (2 ^ width - 1) m)
masked_bit word width m some narrow =
    let low : 64 - (64 - width) ≡ width = omega arith in
    bit_at_and word ((2 ^ 64 - 1) / 2 ^ (64 - width)) m ∙ ap (λ n. min (bit_at word m) (bit_at n m))
    (ones_shr 64 (64 - width) (omega arith) ∙ ap (λ w. 2 ^ w - 1) low)

-- The bits at the start are below the block's width.
pub start_within : (word width : ℕ) → 0 < width → width ≤ 64 → (m : ℕ) → bit_at (bit_and word ((2 ^ 64 - 1) / 2 ^ (64 - width))) m ≡ 1 → m < width
start_within word width some narrow m is =
    elim (cases_lt m width) [
      | inl below ↦ below
      | inr past ↦ let none = bit_at_ones_above width m past in let both = masked_bit word width m some narrow in absurd (omega arith)
    ]

-- At the start no row is taken in.
pub took_none : (s : ℕ) (row block : List ℕ) (width first : ℕ) → first % 64 ≡ 0 → 0 < width → width ≤ 64 →
    TookIn s row row block width first (bit_and (get_or row (first / 64) 0) ((2 ^ 64 - 1) / 2 ^ (64 - width)))
took_none s row block width first aligned some narrow =
    let word = get_or row (first / 64) 0 in
    let mask = λ (m : ℕ). masked_bit word width m some narrow in
    record {
      sound = λ j is. inl is;
      keeps = λ j is. is;
      gained = λ m below is.
          let one : bit_at word m ≡ 1 = eqb-true _ 1 (sym (word_bit first m row aligned (omega arith)) ∙ is) in
          let kept = bit_at_ones width m below in
          let both = mask m in
          inl (omega arith);
      had = λ m is.
          let below : m < width = start_within word width some narrow m is in
          word_bit first m row aligned (omega arith) ∙ eq-eqb _ 1 (least_one (bit_at word m) (bit_at (2 ^ width - 1) m) (bit_at-lt word m) (sym (mask m) ∙ is));
    }

-- The remaining bits after row k is taken in: without bit k and without the bits of row k's word.
abbrev pub bits_left : ℕ → ℕ → ℕ → ℕ
bits_left bits word k = bit_and bits (bit_not w64 (bit_or word (1 * 2 ^ k % 2 ^ 64)))

-- A bit remains if it was there before and is neither bit k nor a bit of the word.
pub bit_at_left : (bits word k m : ℕ) → k < 64 → word < 2 ^ 64 → m < 64 →
    bit_at (bits_left bits word k) m ≡ min (bit_at bits m) (1 - max (bit_at word m) (bit_at (2 ^ k) m))
bit_at_left bits word k m below fits in_word =
    let one = one_shl k 64 below in
    let two = pow_below k 64 below in
    bit_at_and bits (bit_not w64 (bit_or word (1 * 2 ^ k % 2 ^ 64))) m
    ∙ ap (min (bit_at bits m)) (bit_at_not w64 (bit_or word (1 * 2 ^ k % 2 ^ 64)) m
    (or_lt 64 word (1 * 2 ^ k % 2 ^ 64) fits (subst (λ n. n < 2 ^ 64) (sym one) two)) in_word)
    ∙ ap (λ b. min (bit_at bits m) (1 - b)) (bit_at_or word (1 * 2 ^ k % 2 ^ 64) m ∙ ap (λ n. max (bit_at word m) (bit_at n m)) one)

-- Each step leaves a smaller number of bits.
pub bits_left_less : (bits word k : ℕ) → k < 64 → word < 2 ^ 64 → bit_at bits k ≡ 1 → bits_left bits word k < bits
bits_left_less bits word k below fits set =
    let most = and_le_l bits (bit_not w64 (bit_or word (1 * 2 ^ k % 2 ^ 64))) in
    elim (cases_eq (bits_left bits word k) bits) [
      | inl same ↦
          let left = bit_at_left bits word k k below fits below in
          let own = bit_at-pow_same k in
          let kept = ap (λ n. bit_at n k) same in
          absurd (omega arith)
      | inr less ↦ omega arith
    ]

-- Each remaining bit was there before.
pub bits_left_before : (bits word k m : ℕ) → bit_at (bits_left bits word k) m ≡ 1 → bit_at bits m ≡ 1
bits_left_before bits word k m is =
    let rest = bit_not w64 (bit_or word (1 * 2 ^ k % 2 ^ 64)) in
    least_one (bit_at bits m) (bit_at rest m) (bit_at-lt bits m) (sym (bit_at_and bits rest m) ∙ is)

-- One step: row k is taken in.
pub took_more : (s : ℕ) (row now block : List ℕ) (width first k bits : ℕ) → TookIn s row now block width first bits → IsClosedBlock s block width first →
    first % 64 ≡ 0 → width ≤ 64 → k < width → bit_at bits k ≡ 1 → length now ≡ length (row_words s block k) →
    get_or (row_words s block k) (first / 64) 0 < 2 ^ 64 → TookIn s row (zip2 bit_or now (row_words s block k)) block width first
    (bits_left bits (get_or (row_words s block k) (first / 64) 0) k)
unfolding cell_at
took_more s row now block width first k bits took closed aligned narrow below_width set long fits =
    let other = row_words s block k in
    let word = get_or other (first / 64) 0 in
    let united = λ (j : ℕ). bit_at_word-union now other j long in
    let left_bit = λ (m : ℕ) (below : m < 64). bit_at_left bits word k m (omega arith) fits below in
    record {
      sound = λ j is. elim (or_cases (bit_at_word now j) (bit_at_word other j) (sym (united j) ∙ is)) [
        | inl own ↦ took.sound j own
        | inr brought ↦ inr (k, below_width, took.had k set, brought)
      ];
      keeps = λ j is. united j ∙ or_left (bit_at_word now j) (bit_at_word other j) (took.keeps j is);
      gained = λ m below is. elim (took.gained m below is) [
        | inl waits ↦ elim (cases_eq m k) [
          | inl this ↦ inr (λ j cell. united j ∙ or_right (bit_at_word now j) (bit_at_word other j)
              (subst (λ p. IsTrue (bit_at_word (row_words s block p) j)) this cell))
          | inr another ↦ elim (cases_Bool (bit_at_word other (first + m))) [
            | inl named ↦ inr (λ j cell. united j ∙ or_right (bit_at_word now j) (bit_at_word other j) (closed k m j below_width below named cell))
            | inr unnamed ↦
                let none : bit_at word m ≡ 0 = let apart = eqb-false (bit_at word m) 1 (sym (word_bit first m other aligned (omega arith)) ∙ unnamed) in
                let two = bit_at-lt word m in omega arith in
                let other_bit = bit_at-pow_other k m another in
                let stays = left_bit m (omega arith) in
                inl (omega arith)
          ]
        ]
        | inr has ↦ inr (λ j cell. united j ∙ or_left (bit_at_word now j) (bit_at_word other j) (has j cell))
      ];
      had = λ m is. took.had m (bits_left_before bits word k m is);
    }

-- When no bit remains, the row has taken in all rows of the block.
pub took_all : (s : ℕ) (row now block : List ℕ) (width first bits : ℕ) → bits ≡ 0 → TookIn s row now block width first bits → (j : ℕ) →
    IsTrue (bit_at_word now j) ↔ TakesIn s row block width first j
took_all s row now block width first bits none took j = (
  took.sound j,
  λ takes. elim takes [
    | inl own ↦ took.keeps j own
    | inr through ↦ let below : through.0 < width = through.1 in elim (took.gained through.0 below through.2) [
      | inl waits ↦ let zero = ap (λ n. bit_at n through.0) none ∙ bit_at-zero through.0 in absurd (omega arith)
      | inr has ↦ has j through.3
    ]
  ],
)

-- The empty row takes in nothing.
pub takes_in_nil : (s : ℕ) (block : List ℕ) (width first j : ℕ) → IsTrue (bit_at_word [] j) ↔ TakesIn s [] block width first j
takes_in_nil s block width first j =
    let clear : (i : ℕ) → bit_at_word [] i ≡ false = λ i. bit_at_word-past [] i (omega arith) in
    (λ is. inl is, λ takes. elim takes [ inl own ↦ own | inr through ↦ absurd (false≢true (sym (clear (first + through.0)) ∙ through.2)) ])

-- A word of a row fits in 64 bits, because it is a word of the block.
pub row_word_fits : (s k m : ℕ) (block : List ℕ) → ((i : ℕ) → Fits w64 (get_or block i 0)) → get_or (row_words s block k) m 0 < 2 ^ 64
unfolding row_words
row_word_fits s k m block fits =
    elim (cases_lt m s) [
      | inl within ↦ let same = get_or-take s (drop (k * s) block) m 0 within ∙ get_or-drop (k * s) block m 0 in
          subst (λ w. w < 2 ^ 64) (sym same) (fits (k * s + m)).fits
      | inr past ↦ let none = get_or_past (take s (drop (k * s) block)) m 0 (omega (arith, length-take s (drop (k * s) block))) in
          subst (λ w. w < 2 ^ 64) (sym none) (lit< tt)
    ]

-- The result of the loop for the row's length and words as they were lent.
pub took_row : (s t : ℕ) (lent row now block : List ℕ) (width first : ℕ) → t ≡ s → lent ≡ row →
    (IsClosedBlock t block width first → (j : ℕ) → IsTrue (bit_at_word now j) ↔ TakesIn t lent block width first j) → IsClosedBlock s block width first →
    (j : ℕ) → IsTrue (bit_at_word now j) ↔ TakesIn s row block width first j
took_row s t lent row now block width first same is took =
    subst (λ r. IsClosedBlock s block width first → (j : ℕ) → IsTrue (bit_at_word now j) ↔ TakesIn s r block width first j) is
    (subst (λ n. IsClosedBlock n block width first → (j : ℕ) → IsTrue (bit_at_word now j) ↔ TakesIn n lent block width first j) same took)
