-- Each word is the word of the other list with the bit set.
use Rattle.std.proofs.Common.{◌*◌, ◌/◌, ◌^◌, ◌%◌, ◌∙◌, arith, bit_or, get_or}
use Rattle.std.proofs.lemmas.List.{length-set}
use Rattle.tfs_planes.proofs.BitLemmas.{bit_at_word-same, bit_at_word-with_bit, with_bit}
use Rattle.tfs_planes.proofs.bits.copy_few_with_bit.Goals as goal

pub returns : goal.returns
returns c = λ j.
    let others = c.args.others.now in
    let i = c.args.i in
    let kept = length-set others (i / 64) (bit_or (get_or others (i / 64) 0) (1 * 2 ^ (i % 64) % 2 ^ 64)) in
    bit_at_word-same c.loop-at.words (with_bit others i) j (omega (arith, kept, c.loop-at.invariant.0))
    (λ k below. c.loop-at.invariant.1 k (omega (arith, below, c.loop-at.auto.at-end, c.loop-at.invariant.0)))
    ∙ bit_at_word-with_bit others i j c.requires.within
