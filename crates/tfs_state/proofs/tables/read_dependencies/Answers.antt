-- Each step reads the next dependency or returns the fault of the first invalid one.
use Rattle.tfs_state.proofs.ResultLemmas.{err_carried}
use Rattle.tfs_state.proofs.TablesLemmas.{no_dependencies, dependency_more, dependency_stops}
use Rattle.tfs_state.proofs.tables.read_dependencies.Goals as goal

pub loop-k-init : goal.loop-k-init
loop-k-init c = rw c.in_ok-numbers.ensures.items (no_dependencies c.args.i c.args.j c.args.names.now)

pub returns-in_err-number-clause-err : goal.returns-in_err-number-clause-err
returns-in_err-number-clause-err c = err_carried c.from_residual-in_err-number.result c.in_err-number.field-0.0 _
    c.from_residual-in_err-number.ensures.1
    (λ other. dependency_stops c.args.i c.args.j c.loop-k.k c.args.list.now c.index-list-k.result c.args.names.now c.loop-k.names c.loop-k.numbers.items
    c.in_err-number.field-0.0 c.loop-k-test.true c.index-list-k.is c.loop-k.invariant (c.in_err-number.ensures.err other))

pub loop-k-preserved : goal.loop-k-preserved
loop-k-preserved c = rw c.in_ok-keep.ensures
    (dependency_more c.args.i c.args.j c.loop-k.k c.args.list.now c.index-list-k.result c.args.names.now c.loop-k.names c.loop-k.numbers.items
    c.read_dependency.new.names c.in_ok-number.number c.loop-k-test.true c.index-list-k.is c.loop-k.invariant c.in_ok-number.ensures.ok)
