-- The result is the content of the value or its first fault.
use Rattle.std.proofs.Common.{◌∙◌, sym, ap, Some, refl}
use Rattle.tfs_json.specs.Tree.{tree_view as view}
use Rattle.tfs_state.proofs.ContentsLemmas.{other_version, right_version, no_serial, no_lineage, refused_resources, content_read}
use Rattle.tfs_state.proofs.ResultLemmas.{err_carried}
use Rattle.tfs_state.proofs.content.read_content.Goals as goal

pub returns-then-ne-clause-err : goal.returns-then-ne-clause-err
returns-then-ne-clause-err c _ = other_version (view c.args.value.now) c.version_of.result c.version_of.ensures c.if-ne.ensures

pub returns-in_default-clause-err : goal.returns-in_default-clause-err
returns-in_default-clause-err c _ = no_serial (view c.args.value.now)
    (right_version (view c.args.value.now) c.version_of.result c.version_of.ensures c.if-ne.ensures) c.in_default.ensures

pub returns-in_default-lineage_of-clause-err : goal.returns-in_default-lineage_of-clause-err
returns-in_default-lineage_of-clause-err c _ = no_lineage (view c.args.value.now) c.in-Some.serial
    (right_version (view c.args.value.now) c.version_of.result c.version_of.ensures c.if-ne.ensures) (sym c.in-Some.ensures) c.in_default-lineage_of.ensures

pub returns-in_err-blocks-clause-err : goal.returns-in_err-blocks-clause-err
returns-in_err-blocks-clause-err c = err_carried c.from_residual.result c.in_err-blocks.field-0.0 _ c.from_residual.ensures.1
    (λ other. refused_resources (view c.args.value.now) c.in-Some.serial c.in-Some-lineage_of.lineage.now c.in_err-blocks.field-0.0
    (right_version (view c.args.value.now) c.version_of.result c.version_of.ensures c.if-ne.ensures)
    (sym c.in-Some.ensures) (sym c.in-Some-lineage_of.ensures) (c.in_err-blocks.ensures.err other))

pub returns-clause-ok : goal.returns-clause-ok
returns-clause-ok c = content_read (view c.args.value.now)
    (record {
      serial = c.in-Some.serial;
      lineage = c.in_ok-lineage.lineage;
      blocks = c.in_ok-blocks.field-0.blocks;
      packed = c.in_ok-blocks.field-0.packed;
    })
    c.in_ok-blocks.field-0
    (right_version (view c.args.value.now) c.version_of.result c.version_of.ensures c.if-ne.ensures)
    (sym c.in-Some.ensures) (sym c.in-Some-lineage_of.ensures ∙ ap Some (sym c.in_ok-lineage.ensures.ok))
    c.in_ok-blocks.ensures.ok refl refl
