-- The sum of the words' counts is the count of all bits.
use Rattle.std.proofs.Common.{◌∙◌}
use Rattle.tfs_planes.proofs.CountLemmas.{count_each}
use Rattle.tfs_planes.proofs.bits.count_bits.Goals as goal

pub returns : goal.returns
returns c = c.count_words.ensures.count ∙ count_each c.args.words.now c.type_inv.words
