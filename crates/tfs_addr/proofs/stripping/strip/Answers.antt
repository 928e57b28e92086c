-- The result is the text without its keys, a fault of the text, or NoMemory for a text that reads.
use Rattle.std.proofs.Common.{Global}
use Rattle.std.proofs.lemmas.Result.{err_from_is_err_and, IfErr-weaker}
use Rattle.tfs_addr.proofs.ReadingLemmas.{FaultOf-no_reading, GivesText-fault, GivesText-made}
use Rattle.tfs_addr.proofs.stripping.strip.Goals as goal

pub returns-in_err-len-clause-no_reading : goal.returns-in_err-len-clause-no_reading
returns-in_err-len-clause-no_reading c =
    let p = err_from_is_err_and c.from_residual.result c.from_residual.ensures.1 in
    rw (p.1, p.2) (λ _. FaultOf-no_reading _ _ c.in_err-len.ensures.err)

pub returns-in_err-len-clause-value : goal.returns-in_err-len-clause-value
returns-in_err-len-clause-value c =
    let p = err_from_is_err_and c.from_residual.result c.from_residual.ensures.1 in
    rw (p.1, p.2) (GivesText-fault Global _ c.in_err-len.field-0.0 c.utf8.text c.in_err-len.ensures.err)

pub returns-clause-no_reading : goal.returns-clause-no_reading
returns-clause-no_reading c =
    IfErr-weaker c.bare_text.result _ _ (λ e fault other. FaultOf-no_reading _ e (fault other)) c.bare_text.ensures.err

pub returns-clause-value : goal.returns-clause-value
returns-clause-value c =
    GivesText-made Global _ c.in_ok-len.ensures.ok.0 c.bare_text.result c.utf8.text c.in_ok-len.ensures.ok.1 c.bare_text.ensures.ok c.bare_text.ensures.err
