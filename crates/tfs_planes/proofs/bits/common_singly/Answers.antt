-- The highest bit of what two words have in common is a number of both lists.
use Rattle.tfs_planes.proofs.TargetLemmas.{number_common}
use Rattle.tfs_planes.proofs.bits.common_singly.Goals as goal

pub returns-then-both-ne0-clause-member : goal.returns-then-both-ne0-clause-member
returns-then-both-ne0-clause-member c =
    (number_common c.args.words.now c.args.others.now c.loop-at.at c.highest_bit.result c.highest_bit.ensures.below c.highest_bit.ensures.set).0

pub returns-then-both-ne0-clause-common : goal.returns-then-both-ne0-clause-common
returns-then-both-ne0-clause-common c =
    (number_common c.args.words.now c.args.others.now c.loop-at.at c.highest_bit.result c.highest_bit.ensures.below c.highest_bit.ensures.set).1
