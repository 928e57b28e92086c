-- Each bit of a full word is set.
use Rattle.std.proofs.Common.{◌%◌, ◌/◌, ◌∙◌, ap, arith, eqb}
use Rattle.std.proofs.lemmas.Nat.Bits.{bit_at_ones}
use Rattle.std.specs.Int.{bit_at}
use Rattle.tfs_planes.specs.Row.{bit_at_word}
use Rattle.tfs_planes.proofs.bits.are_full.Goals as goal

pub returns : goal.returns
unfolding bit_at_word
returns c = λ _ i below.
    ap (λ word. eqb (bit_at word (i % 64)) 1) (c.loop-at.invariant (i / 64) (omega (arith, below, c.loop-at.auto.at-end)))
    ∙ ap (λ b. eqb b 1) (bit_at_ones 64 (i % 64) (omega arith))
