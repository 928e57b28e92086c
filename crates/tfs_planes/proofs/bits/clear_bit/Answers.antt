-- The word's bit is cleared, and no other bit changes.
use Rattle.tfs_planes.proofs.BitLemmas.{bit_cleared, bit_uncleared}
use Rattle.tfs_planes.proofs.bits.clear_bit.Goals as goal

pub returns-clause-cleared : goal.returns-clause-cleared
returns-clause-cleared c = bit_cleared c.args.words.now c.args.i c.requires

pub returns-clause-others : goal.returns-clause-others
returns-clause-others c = λ j other. bit_uncleared c.args.words.now c.args.i j c.requires other
