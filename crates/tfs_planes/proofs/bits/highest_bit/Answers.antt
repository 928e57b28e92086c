-- The highest bit of a word is set.
use Rattle.tfs_planes.proofs.BitLemmas.{highest_set}
use Rattle.tfs_planes.proofs.bits.highest_bit.Goals as goal

pub returns-clause-set : goal.returns-clause-set
returns-clause-set c = highest_set c.args.word c.requires c.ranges.word.fits
