-- The result of decoding the chunks decides the result for the message.
use Rattle.std.proofs.Common.{ℕ, List, Ok, sym, ◌∙◌, ap, subst}
use Rattle.tfs_framing.specs.Decoded.{IsDecoded}
use Rattle.tfs_framing.specs.Framing.{framing_refusal}
use Rattle.tfs_framing.specs.Request.{completed}
use Rattle.tfs_framing.specs.declared.body.Decoded.{Decoded}
use Rattle.tfs_framing.specs.declared.lines.BodyLength.TheVariants.{Chunked}
use Rattle.tfs_framing.proofs.DecodedLemmas.{decoded_wanted}
use Rattle.tfs_framing.proofs.OpensLemmas.{more_framed, opens_refused, whole_anyway, whole_framed}
use Rattle.tfs_framing.proofs.framing.frame_chunks.Goals as goal

pub returns-in-Ok-Wanted-clause-ok : goal.returns-in-Ok-Wanted-clause-ok
returns-in-Ok-Wanted-clause-ok c = λ bytes d.
    let told = subst (λ (x : Decoded). IsDecoded d.rest c.args.left.now (Ok x)) c.in-Ok-Wanted.field-0-is
    (c.in-Ok-Wanted.ensures d.rest d.passed) in
    let w = decoded_wanted bytes c.args.left.now c.args.request c.args.decoded c.in-Ok-Wanted.decoded c.in-Ok-Wanted.left d told in
    more_framed bytes c.args.left.now w.1 c.in-Ok-Wanted.left c.keep_chunks-progress.result w.0 w.2 w.3 w.4
    (c.keep_chunks-progress.ensures.at bytes w.1 w.5) c.keep_chunks-progress.ensures.over

pub returns-in_err-body-in-Ok-Whole-clause-memory : goal.returns-in_err-body-in-Ok-Whole-clause-memory
returns-in_err-body-in-Ok-Whole-clause-memory c = λ bytes d.
    let told = subst (λ (x : Decoded). IsDecoded d.rest c.args.left.now (Ok x)) c.in-Ok-Whole.field-0-is
    (c.in-Ok-Whole.ensures d.rest d.passed) in
    whole_anyway _ bytes d.rest told.3 told.4 told.0 c.args.request Chunked d.opens told.5 told.6

pub returns-in_err-request-in-Ok-Whole-clause-memory : goal.returns-in_err-request-in-Ok-Whole-clause-memory
returns-in_err-request-in-Ok-Whole-clause-memory c = λ bytes d.
    let told = subst (λ (x : Decoded). IsDecoded d.rest c.args.left.now (Ok x)) c.in-Ok-Whole.field-0-is
    (c.in-Ok-Whole.ensures d.rest d.passed) in
    whole_anyway _ bytes d.rest told.3 told.4 told.0 c.args.request Chunked d.opens told.5 told.6

pub returns-in_ok-request-in-Ok-Whole-clause-ok : goal.returns-in_ok-request-in-Ok-Whole-clause-ok
returns-in_ok-request-in-Ok-Whole-clause-ok c = λ bytes d.
    let told = subst (λ (x : Decoded). IsDecoded d.rest c.args.left.now (Ok x)) c.in-Ok-Whole.field-0-is
    (c.in-Ok-Whole.ensures d.rest d.passed) in
    let body = c.in_ok-body-in-Ok-Whole.ensures in
    let own = c.in_ok-request-in-Ok-Whole.field-0 in
    whole_framed bytes d.rest told.3 told.4 told.0 c.args.left.now c.args.request Chunked own _ c.in-Ok-Whole.left d.opens told.5 told.6
    c.in_ok-request-in-Ok-Whole.was
    (c.complete-request.ensures ∙ ap (λ (t : List ℕ). completed own t) (body.1 ∙ told.7 body.0)) told.1 told.2

pub returns-in-Err-clause-ok : goal.returns-in-Err-clause-ok
returns-in-Err-clause-ok c = λ bytes d.
    subst (framing_refusal bytes) (sym c.refusal_of.ensures)
    (opens_refused bytes d.rest c.args.request Chunked c.in-Err.flaw d.opens (c.in-Err.ensures d.rest d.passed))
