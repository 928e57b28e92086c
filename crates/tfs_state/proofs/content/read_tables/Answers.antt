-- The result is the instances of the value or the first fault of its resources.
use Rattle.std.proofs.Common.{arith, map, refl, sym, ap, ◌∙◌, Err}
use Rattle.tfs_json.specs.Tree.{tree_view as view}
use Rattle.tfs_state.proofs.ContentsLemmas.{no_list, refused_resource, many_instances, instances_read}
use Rattle.tfs_state.proofs.ResultLemmas.{err_carried}
use Rattle.tfs_state.proofs.content.read_tables.Goals as goal

pub returns-in_default-clause-err : goal.returns-in_default-clause-err
returns-in_default-clause-err c _ = no_list (view c.args.value.now) c.in_default.ensures.value

pub returns-in_err-tables-clause-err : goal.returns-in_err-tables-clause-err
returns-in_err-tables-clause-err c = err_carried c.from_residual.result c.in_err-tables.field-0.0 _ c.from_residual.ensures.1
    (λ other. refused_resource (view c.args.value.now) (map view c.in-Some.list.now) c.in_err-tables.field-0.0 c.in-Some.ensures.value
    (c.in_err-tables.ensures.err other))

pub returns-in_err-check_count-clause-err : goal.returns-in_err-check_count-clause-err
returns-in_err-check_count-clause-err c = err_carried c.from_residual-in_err-check_count.result c.in_err-check_count.field-0.0 _
    c.from_residual-in_err-check_count.ensures.1
    (λ _. many_instances (view c.args.value.now) (map view c.in-Some.list.now) c.in_ok-tables.tables
    c.in-Some.ensures.value c.in_ok-tables.ensures.ok (omega (arith, c.in_err-check_count.ensures.err.1))
    ∙ ap Err (sym c.in_err-check_count.ensures.err.0))

pub returns-clause-ok : goal.returns-clause-ok
returns-clause-ok c =
    let packed = c.in_ok-tables.tables.packed in
    instances_read (view c.args.value.now) (map view c.in-Some.list.now) c.in_ok-tables.tables
    (record c.in_ok-tables.tables { blocks = c.shrink_to_fit.new.self; packed = record packed { numbers = c.shrink_to_fit-2.new.self } })
    c.in-Some.ensures.value c.in_ok-tables.ensures.ok c.apart.ensures (omega (arith, c.in_ok-check_count.ensures.ok)) c.shrink_to_fit.ensures.items refl c.shrink_to_fit-2.ensures.items
