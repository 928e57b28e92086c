-- Lemmas about the first set bit from a number on.
use Rattle.std.proofs.Common.{◌≡◌, ◌≢◌, ◌↔◌, ℕ, ◌+◌, ◌-◌, ◌*◌, ◌/◌, ◌%◌, ◌^◌, ◌<◌, ◌≤◌, min, false, IsTrue, List, get_or, bit_and, ap, sym}
use Rattle.std.proofs.Common.{subst, ◌∙◌, inl, inr, arith}
use Rattle.std.proofs.lemmas.Bool.{cases_lt, false_from_ne_true, eqb-true, eq-eqb}
use Rattle.std.proofs.lemmas.Nat.Bits.{bit_at_and, bit_at-lt, bit_at-zero, bit_at_mask_inside, bit_at_mask_below, ones_shl}
use Rattle.std.specs.Int.{bit_at}
use Rattle.tfs_planes.specs.Row.{bit_at_word}
use Rattle.tfs_planes.proofs.BitLemmas.{bit_of_word}

-- The bits of the first word, with the bits below `from` cleared, are the set bits from `from` on.
pub bits_of_first_word : (words : List ℕ) (from at k : ℕ) → at ≡ from / 64 → k < 64 →
    (bit_at (bit_and (get_or words at 0) ((2 ^ 64 - 1) * 2 ^ (from % 64) % 2 ^ 64)) k ≡ 1) ↔ ((from ≤ 64 * at + k) × IsTrue (bit_at_word words (64 * at + k)))
bits_of_first_word words from at k here below =
    let low = from % 64 in
    let word = get_or words at 0 in
    let masked = bit_at_and word ((2 ^ 64 - 1) * 2 ^ low % 2 ^ 64) k ∙ ap (λ m. min (bit_at word k) (bit_at m k)) (ones_shl 64 low (omega arith)) in
    let bit = bit_of_word at k words below in
    let two = bit_at-lt word k in
    elim (cases_lt k low) [
      | inl under ↦ let none = bit_at_mask_below low 64 k under in (λ one. absurd (omega arith), λ both. absurd (omega (arith, both.0)))
      | inr over ↦
          let whole = bit_at_mask_inside low 64 k over below in
          (λ one. (omega arith, bit ∙ eq-eqb _ 1 (omega arith)), λ both. let set = eqb-true _ 1 (sym bit ∙ both.1) in omega arith)
    ]

-- The bits of a later word are all from `from` on.
pub bits_of_later_word : (words : List ℕ) (from at k : ℕ) → at ≢ from / 64 → from / 64 ≤ at → k < 64 →
    (bit_at (get_or words at 0) k ≡ 1) ↔ ((from ≤ 64 * at + k) × IsTrue (bit_at_word words (64 * at + k)))
bits_of_later_word words from at k other reached below =
    let bit = bit_of_word at k words below in
    (λ one. (omega arith, bit ∙ eq-eqb _ 1 one), λ both. eqb-true _ 1 (sym bit ∙ both.1))

-- If no bit is set in the words before, nor below `top` in this word, no bit is set up to there.
pub none_up_to : (words : List ℕ) (from at bits top : ℕ) → ((k : ℕ) → k < 64 →
    (bit_at bits k ≡ 1) ↔ ((from ≤ 64 * at + k) × IsTrue (bit_at_word words (64 * at + k)))) → top ≤ 64 →
    ((k : ℕ) → k < top → bit_at bits k ≡ 0) → ((k : ℕ) → from ≤ k → k < 64 * at → bit_at_word words k ≡ false) → (k : ℕ) → from ≤ k → k < 64 * at + top →
    bit_at_word words k ≡ false
none_up_to words from at bits top means short clear before k low high =
    elim (cases_lt k (64 * at)) [
      | inl earlier ↦ before k low earlier
      | inr here ↦
          let m = k - 64 * at in
          let place : k ≡ 64 * at + m = omega arith in
          let none = clear m (omega arith) in
          false_from_ne_true (bit_at_word words k) (λ is. let one = (means m (omega arith)).1
          (omega arith, subst (λ p. IsTrue (bit_at_word words p)) place is) in absurd (omega arith))
    ]

-- No bit of the word 0 is set.
pub none_in_zero : (bits k : ℕ) → bits ≡ 0 → bit_at bits k ≡ 0
none_in_zero bits k none = ap (λ n. bit_at n k) none ∙ bit_at-zero k
