-- Each step reads the next change or returns its fault.
use Rattle.std.proofs.Common.{map}
use Rattle.tfs_state.proofs.ResultLemmas.{err_carried}
use Rattle.tfs_plan.proofs.PlanLemmas.{changes_more, changes_stop}
use Rattle.tfs_plan.proofs.plan.read_changes.Goals as goal

pub returns-in_err-change-clause-err : goal.returns-in_err-change-clause-err
returns-in_err-change-clause-err c = err_carried c.from_residual-in_err-change.result c.in_err-change.field-0.0 _
    c.from_residual-in_err-change.ensures.1
    (λ other. changes_stop (map (λ t. t.now) c.args.ignored.now) c.args.list.now c.loop-i.i c.index-list-i.result c.loop-i.changes.items
    c.in_err-change.field-0.0 c.loop-i-test.true c.index-list-i.is c.loop-i.invariant (c.in_err-change.ensures.err other))

pub loop-i-preserved : goal.loop-i-preserved
loop-i-preserved c = rw c.in_ok-keep.ensures
    (changes_more (map (λ t. t.now) c.args.ignored.now) c.args.list.now c.loop-i.i c.index-list-i.result c.loop-i.changes.items
    c.in_ok-change.change c.loop-i-test.true c.index-list-i.is c.loop-i.invariant c.in_ok-change.ensures.ok)
