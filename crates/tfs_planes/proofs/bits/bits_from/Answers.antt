-- The first word loses its bits below the number, and a later word loses none.
use Rattle.tfs_planes.proofs.NextLemmas.{bits_of_first_word, bits_of_later_word}
use Rattle.tfs_planes.proofs.bits.bits_from.Goals as goal

pub returns-then-at-from : goal.returns-then-at-from
returns-then-at-from c = λ k below. bits_of_first_word c.args.words.now c.args.from c.args.at k c.if-at-from.true below

pub returns-else-at-from : goal.returns-else-at-from
returns-else-at-from c = λ k below. bits_of_later_word c.args.words.now c.args.from c.args.at k c.if-at-from.false c.requires.reached below
