use Rattle.tfs_digests.proofs.BlockLemmas.{count_with_short_end, count_with_long_end}
use Rattle.tfs_digests.proofs.message.end_blocks.Goals as goal

pub returns-then-text-lt56-clause-count : goal.returns-then-text-lt56-clause-count
returns-then-text-lt56-clause-count c = count_with_short_end c.args.text.now c.if-text-lt56.true

pub returns-else-text-lt56-clause-count : goal.returns-else-text-lt56-clause-count
returns-else-text-lt56-clause-count c = count_with_long_end c.args.text.now c.if-text-lt56.false
