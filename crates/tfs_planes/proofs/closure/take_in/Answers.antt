-- The row takes in the row of the block for its lowest remaining bit.
use Rattle.std.proofs.Common.{◌≡◌, ◌<◌, ◌/◌, ℕ, List, length, get_or, bit_or, w64, sym, ap, subst, ◌∙◌, arith}
use Rattle.std.proofs.lemmas.Nat.Bits.{bit_at-trailing_zeros}
use Rattle.std.specs.Int.{trailing_zeros}
use Rattle.std.specs.Simd.Lanes.{zip2}
use Rattle.tfs_planes.specs.Plane.{row_words}
use Rattle.tfs_planes.proofs.PlaneLemmas.{row_fits, length-row_words}
use Rattle.tfs_planes.proofs.TakeLemmas.{TookIn, start_within, took_none, took_more, took_all, bits_left, bits_left_less, bits_left_before, row_word_fits}
use Rattle.tfs_planes.proofs.closure.take_in.Goals as goal

pub loop-bits-init : goal.loop-bits-init
loop-bits-init c =
    let row = c.args.row.now in
    record {
      within = start_within (get_or row (c.args.first / 64) 0) c.args.width c.requires.some c.requires.narrow;
      took = λ closed. took_none (length row) row c.args.block.now c.args.width c.args.first c.requires.aligned c.requires.some c.requires.narrow;
    }

pub row_at-other-requires : goal.row_at-other-requires
row_at-other-requires c =
    let low = bit_at-trailing_zeros w64 c.loop-bits.bits (omega arith) c.loop-bits.auto.bits-fits.fits in
    omega (arith, row_fits (trailing_zeros w64 c.loop-bits.bits) c.args.width (length c.args.row.now) (c.loop-bits.invariant.within _ low.1))

-- A word of the lent row is a word of a row of the block.
module _ (s k first bits : ℕ) (lent block : List ℕ) (is : lent ≡ row_words s block k) where
  same_left : bits_left bits (get_or lent (first / 64) 0) k ≡ bits_left bits (get_or (row_words s block k) (first / 64) 0) k
  same_left = ap (λ r. bits_left bits (get_or r (first / 64) 0) k) is

pub loop-bits-smaller : goal.loop-bits-smaller
loop-bits-smaller c =
    let s = length c.args.row.now in
    let block = c.args.block.now in
    let bits = c.loop-bits.bits in
    let k = trailing_zeros w64 bits in
    let low = bit_at-trailing_zeros w64 bits (omega arith) c.loop-bits.auto.bits-fits.fits in
    subst (λ n. n < bits) (sym (same_left s k c.args.first bits c.row_at-other.result.now block c.row_at-other.ensures.row))
    (bits_left_less bits (get_or (row_words s block k) (c.args.first / 64) 0) k low.0 (row_word_fits s k (c.args.first / 64) block c.type_inv.block) low.1)

pub loop-bits-preserved : goal.loop-bits-preserved
loop-bits-preserved c =
    let start = c.args.row.now in
    let s = length start in
    let block = c.args.block.now in
    let width = c.args.width in
    let first = c.args.first in
    let bits = c.loop-bits.bits in
    let k = trailing_zeros w64 bits in
    let other = row_words s block k in
    let inv = c.loop-bits.invariant in
    let low = bit_at-trailing_zeros w64 bits (omega arith) c.loop-bits.auto.bits-fits.fits in
    let below : k < width = inv.within k low.1 in
    let left = same_left s k first bits c.row_at-other.result.now block c.row_at-other.ensures.row in
    let row = c.union_words.ensures.union ∙ ap (zip2 bit_or c.loop-bits.row) c.row_at-other.ensures.row in
    let fits = row_fits k width s below in
    let long = c.loop-bits.auto.row ∙ sym (length-row_words s k block (omega arith)) in
    record {
      within = λ m is. inv.within m (bits_left_before bits (get_or c.row_at-other.result.now (first / 64) 0) k m is);
      took = λ closed.
          subst (λ r. TookIn s start r block width first (bits_left bits (get_or c.row_at-other.result.now (first / 64) 0) k)) (sym row)
          (subst (λ n. TookIn s start (zip2 bit_or c.loop-bits.row other) block width first n) (sym left)
          (took_more s start c.loop-bits.row block width first k bits (inv.took closed) closed c.requires.aligned c.requires.narrow below low.1 long
          (row_word_fits s k (first / 64) block c.type_inv.block)));
    }

pub returns : goal.returns
returns c = λ closed j.
    took_all (length c.args.row.now) c.args.row.now c.loop-bits.row c.args.block.now c.args.width c.args.first c.loop-bits.bits (omega arith)
    (c.loop-bits.invariant.took closed) j
