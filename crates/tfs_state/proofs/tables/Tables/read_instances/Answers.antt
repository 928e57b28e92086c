-- Each step adds the next instance or returns the fault of the first invalid one.
use Rattle.std.proofs.Common.{refl}
use Rattle.tfs_state.proofs.ResultLemmas.{err_carried}
use Rattle.tfs_state.proofs.TablesLemmas.{no_instances, instance_more, instance_stops}
use Rattle.tfs_state.proofs.tables.Tables.read_instances.Goals as goal

pub loop-j-init : goal.loop-j-init
loop-j-init c = no_instances c.args.i c.args.place c.args.self.now

pub returns-in_err-row-clause-err : goal.returns-in_err-row-clause-err
returns-in_err-row-clause-err c = err_carried c.from_residual.result c.in_err-row.field-0.0 _
    c.from_residual.ensures.1
    (λ other. instance_stops c.args.i c.loop-j.j c.args.place c.args.list.now c.index-list-j.result c.args.self.now c.loop-j.self
    c.in_err-row.field-0.0 c.loop-j-test.true c.index-list-j.is c.loop-j.invariant (c.in_err-row.ensures.err other))

pub loop-j-preserved : goal.loop-j-preserved
loop-j-preserved c = instance_more c.args.i c.loop-j.j c.args.place c.args.list.now c.index-list-j.result c.args.self.now c.loop-j.self
    (record c.loop-j.self { names = c.read_instance.new.names; packed = c.keep.new.self }) c.in_ok-row.row
    c.loop-j-test.true c.index-list-j.is c.loop-j.invariant c.in_ok-row.ensures.ok refl c.in_ok-keep.ensures
