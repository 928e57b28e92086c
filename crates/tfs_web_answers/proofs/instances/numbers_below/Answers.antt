-- The range has all numbers below the limit.
use Rattle.std.proofs.Common.{arith, refl}
use Rattle.std.proofs.lemmas.Iterator.{items_from_collect, YieldsList-from_range}
use Rattle.tfs_web_answers.proofs.instances.numbers_below.Goals as goal

pub returns : goal.returns
returns c = items_from_collect c.collect.result c.collect.ensures.ran (YieldsList-from_range 0 c.args.limit c.args.limit refl (omega arith))
