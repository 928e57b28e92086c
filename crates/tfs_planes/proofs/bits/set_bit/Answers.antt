-- The word's bit is set, and no other bit changes.
use Rattle.tfs_planes.proofs.BitLemmas.{bit_at_word-with_bit}
use Rattle.tfs_planes.proofs.bits.set_bit.Goals as goal

pub returns : goal.returns
returns c = λ j. bit_at_word-with_bit c.args.words.now c.args.i j c.requires
