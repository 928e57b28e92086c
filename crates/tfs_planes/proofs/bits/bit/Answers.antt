-- Testing the lowest bit of the shifted word tests the bit.
use Rattle.std.proofs.Common.{◌/◌, ◌%◌, eqb, get_or, ap}
use Rattle.std.proofs.lemmas.Nat.Bits.{shr_and_one}
use Rattle.tfs_planes.specs.Row.{bit_at_word}
use Rattle.tfs_planes.proofs.bits.bit.Goals as goal

pub returns : goal.returns
unfolding bit_at_word
returns c = ap (λ b. eqb b 1) (shr_and_one (get_or c.args.words.now (c.args.i / 64) 0) (c.args.i % 64))
