-- A text and what is kept of its value give the same result.
use Rattle.std.proofs.Common.{◌∙◌}
use Rattle.std.proofs.lemmas.Result.{IfOk-weaker, IfErr-weaker}
use Rattle.tfs_lock.proofs.KeptLemmas.{id_kept, fault_kept}
use Rattle.tfs_lock.proofs.lock_info.read_text.Goals as goal

pub returns-in-Ok-clause-ok : goal.returns-in-Ok-clause-ok
returns-in-Ok-clause-ok c =
    IfOk-weaker c.read_id.result _ _ (λ id gives. id_kept c.args.bytes.now c.in-Ok.value id c.in-Ok.ensures.ok gives) c.read_id.ensures.ok

pub returns-in-Ok-clause-err : goal.returns-in-Ok-clause-err
returns-in-Ok-clause-err c =
    let same = fault_kept c.args.bytes.now c.in-Ok.value c.in-Ok.ensures.ok in
    IfErr-weaker c.read_id.result _ _ (λ fault refused other. same ∙ refused other) c.read_id.ensures.err
