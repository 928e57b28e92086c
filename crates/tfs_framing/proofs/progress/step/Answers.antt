-- The kept progress is right for the bytes; if it has all of them, a result for them is a result
-- for all bytes.
use Rattle.std.proofs.Common.{ℕ, List, IfOk, OnErr, Ok, inr, sym, ◌∙◌, subst}
use Rattle.tfs_framing.specs.Decoded.{Decodes}
use Rattle.tfs_framing.specs.Decoder.{HasNoRefusal, IsApart, IsAt, IsFramed}
use Rattle.tfs_framing.specs.declared.progress.Progress.{Progress}
use Rattle.tfs_framing.proofs.DecoderLemmas.{on_err}
use Rattle.tfs_framing.proofs.progress.step.Goals as goal

pub returns-in-Head-clause-ok : goal.returns-in-Head-clause-ok
returns-in-Head-clause-ok c = λ bytes at.
    let all = subst (λ (p : Progress). IsAt bytes p c.args.unused.now.items) (sym c.replace.ensures.value ∙ c.in-Head.is) at in
    c.settle.ensures.ok bytes
    (subst (λ (t : List ℕ). IfOk c.frame-framed.result (IsFramed t c.args.unused.now.items)) (sym all.0)
    (subst (λ (t : List ℕ). IfOk c.frame-framed.result (IsFramed t t)) c.as_slice.ensures c.frame-framed.ensures.ok))

pub returns-in-Head-clause-memory : goal.returns-in-Head-clause-memory
returns-in-Head-clause-memory c = λ bytes at.
    let all = subst (λ (p : Progress). IsAt bytes p c.args.unused.now.items) (sym c.replace.ensures.value ∙ c.in-Head.is) at in
    c.settle.ensures.memory bytes
    (subst (λ (t : List ℕ). IfOk c.frame-framed.result (IsFramed t c.args.unused.now.items)) (sym all.0)
    (subst (λ (t : List ℕ). IfOk c.frame-framed.result (IsFramed t t)) c.as_slice.ensures c.frame-framed.ensures.ok))
    (subst (λ (t : List ℕ). OnErr c.frame-framed.result (HasNoRefusal t)) (c.as_slice.ensures ∙ sym all.0)
    (on_err c.frame-framed.result (λ b. inr b) c.frame-framed.ensures.memory))

pub returns-in-Sized-clause-ok : goal.returns-in-Sized-clause-ok
returns-in-Sized-clause-ok c = λ bytes at.
    let apart = subst (λ (p : Progress). IsAt bytes p c.args.unused.now.items) (sym c.replace.ensures.value ∙ c.in-Sized.is) at in
    c.settle-in-Sized.ensures.ok bytes
    (subst (λ (t : List ℕ). IsFramed bytes t c.fill.result) (sym apart.none)
    (c.fill.ensures bytes (subst (λ (t : List ℕ). IsApart bytes c.in-Sized.sized t) apart.none apart)))

pub returns-in-Sized-clause-memory : goal.returns-in-Sized-clause-memory
returns-in-Sized-clause-memory c = λ bytes at.
    let apart = subst (λ (p : Progress). IsAt bytes p c.args.unused.now.items) (sym c.replace.ensures.value ∙ c.in-Sized.is) at in
    c.settle-in-Sized.ensures.memory bytes
    (subst (λ (t : List ℕ). IsFramed bytes t c.fill.result) (sym apart.none)
    (c.fill.ensures bytes (subst (λ (t : List ℕ). IsApart bytes c.in-Sized.sized t) apart.none apart))) tt

pub returns-in-Chunks-clause-ok : goal.returns-in-Chunks-clause-ok
returns-in-Chunks-clause-ok c = λ bytes at.
    let told = subst (λ (p : Progress). IsAt bytes p c.args.unused.now.items) (sym c.replace.ensures.value ∙ c.in-Chunks.is) at in
    c.settle-in-Chunks.ensures.ok bytes
    (subst (λ (t : List ℕ). IfOk c.frame_chunks-framed.result (IsFramed bytes t)) c.as_slice-in-Chunks.ensures
    (c.frame_chunks-framed.ensures.ok bytes
    (subst (λ (t : List ℕ). Decodes bytes (Ok c.in-Chunks.chunks.request) c.in-Chunks.chunks.decoded t) (sym c.as_slice-in-Chunks.ensures) told)))
