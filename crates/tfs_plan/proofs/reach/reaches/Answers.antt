-- A number beyond the last instance reaches none.
use Rattle.std.proofs.Common.{arith}
use Rattle.tfs_plan.proofs.ReachLemmas.{reaches_beyond}
use Rattle.tfs_plan.proofs.reach.reaches.Goals as goal

pub returns-else-v-count_of : goal.returns-else-v-count_of
returns-else-v-count_of c = reaches_beyond c.args.version.now c.args.v c.args.u
    (λ low. let beyond = c.if-v-count_of.false in let count = c.count_of.ensures in omega arith)
