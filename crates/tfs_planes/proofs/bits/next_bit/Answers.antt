-- The next number is the lowest bit of the first word that is not 0.
use Rattle.std.proofs.Common.{◌*◌, w64, arith, inl, inr}
use Rattle.std.proofs.lemmas.Bool.{cases_lt}
use Rattle.std.proofs.lemmas.Nat.Bits.{bit_at-trailing_zeros}
use Rattle.std.specs.Int.{trailing_zeros}
use Rattle.tfs_planes.proofs.BitLemmas.{bit_at_word-past}
use Rattle.tfs_planes.proofs.NextLemmas.{none_up_to, none_in_zero}
use Rattle.tfs_planes.proofs.bits.next_bit.Goals as goal

pub returns-then-bits-ne0-clause-member : goal.returns-then-bits-ne0-clause-member
returns-then-bits-ne0-clause-member c =
    let bits = c.bits_from-bits.result in
    let low = bit_at-trailing_zeros w64 bits (omega arith) c.bits_from-bits.type_inv in
    ((c.bits_from-bits.ensures (trailing_zeros w64 bits) low.0).0 low.1).1

pub returns-then-bits-ne0-clause-reached : goal.returns-then-bits-ne0-clause-reached
returns-then-bits-ne0-clause-reached c =
    let bits = c.bits_from-bits.result in
    let low = bit_at-trailing_zeros w64 bits (omega arith) c.bits_from-bits.type_inv in
    ((c.bits_from-bits.ensures (trailing_zeros w64 bits) low.0).0 low.1).0

pub returns-then-bits-ne0-clause-first : goal.returns-then-bits-ne0-clause-first
returns-then-bits-ne0-clause-first c =
    let bits = c.bits_from-bits.result in
    let low = bit_at-trailing_zeros w64 bits (omega arith) c.bits_from-bits.type_inv in
    none_up_to c.args.words.now c.args.from c.loop-at.at bits (trailing_zeros w64 bits) c.bits_from-bits.ensures (omega (arith, low.0)) low.2
    c.loop-at.invariant

pub loop-at-preserved : goal.loop-at-preserved
loop-at-preserved c = λ k low high.
    let bits = c.bits_from-bits.result in
    none_up_to c.args.words.now c.args.from c.loop-at.at bits 64 c.bits_from-bits.ensures (omega arith) (λ m _. none_in_zero bits m c.if-bits-ne0.false)
    c.loop-at.invariant k low (omega arith)

pub returns-clause-none : goal.returns-clause-none
returns-clause-none c = λ k low.
    elim (cases_lt k (64 * c.loop-at.at)) [
      | inl before ↦ c.loop-at.invariant k low before
      | inr past ↦ bit_at_word-past c.args.words.now k (omega arith)
    ]
