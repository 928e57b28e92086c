-- The next instance is appended if it is reached and not among the others.
use Rattle.tfs_plan.specs.Reached.{is_beyond}
use Rattle.tfs_plan.proofs.FilterLemmas.{filter_step}
use Rattle.tfs_plan.proofs.reach.reached.Goals as goal

pub loop-u-preserved : goal.loop-u-preserved
loop-u-preserved c = filter_step (is_beyond c.args.version.now c.args.starts.now c.args.others.now) c.loop-u.u c.loop-u.numbers.items
    c.push_if.new.numbers.items c.is_beyond.result c.is_beyond.ensures c.in_ok-push_if.ensures c.loop-u.invariant
