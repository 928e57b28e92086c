-- Each step reads the next resource or returns the fault of the first invalid one.
use Rattle.tfs_state.proofs.ResultLemmas.{err_carried}
use Rattle.tfs_state.proofs.TablesLemmas.{no_resources, resource_more, resource_stops}
use Rattle.tfs_state.proofs.tables.Tables.read.Goals as goal

pub loop-i-init : goal.loop-i-init
loop-i-init c = no_resources c.in_ok-tables.tables c.in_ok-tables.ensures

pub returns-in_err-read_resource-clause-err : goal.returns-in_err-read_resource-clause-err
returns-in_err-read_resource-clause-err c = err_carried c.from_residual-in_err-read_resource.result c.in_err-read_resource.field-0.0 _
    c.from_residual-in_err-read_resource.ensures.1
    (λ other. resource_stops c.loop-i.i c.args.list.now c.index-list-i.result c.loop-i.tables c.in_err-read_resource.field-0.0
    c.loop-i-test.true c.index-list-i.is c.loop-i.invariant (c.in_err-read_resource.ensures.err other))

pub loop-i-preserved : goal.loop-i-preserved
loop-i-preserved c = resource_more c.loop-i.i c.args.list.now c.index-list-i.result c.loop-i.tables c.read_resource.new.self
    c.loop-i-test.true c.index-list-i.is c.loop-i.invariant c.in_ok-read_resource.ensures.ok
