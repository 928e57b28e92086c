-- The content of a text is the content of the kept part of its value.
use Rattle.std.proofs.Common.{ap, ◌∙◌}
use Rattle.std.proofs.lemmas.Result.{IfOk-weaker, IfErr-weaker}
use Rattle.std.specs.Result.{result_err}
use Rattle.tfs_state.proofs.KeptLemmas.{content_kept}
use Rattle.tfs_state.proofs.content.read_text.Goals as goal

pub returns-in-Ok-clause-ok : goal.returns-in-Ok-clause-ok
returns-in-Ok-clause-ok c =
    let same = content_kept c.args.bytes.now c.in-Ok.value c.in-Ok.ensures.ok in
    IfOk-weaker c.read_content.result _ _
    (λ parts r. record { size = c.requires; content = r.content; read = same ∙ r.read; holds = r.holds }) c.read_content.ensures.ok

pub returns-in-Ok-clause-err : goal.returns-in-Ok-clause-err
returns-in-Ok-clause-err c =
    let same = content_kept c.args.bytes.now c.in-Ok.value c.in-Ok.ensures.ok in
    IfErr-weaker c.read_content.result _ _ (λ fault refused other. ap result_err (same ∙ refused other)) c.read_content.ensures.err
