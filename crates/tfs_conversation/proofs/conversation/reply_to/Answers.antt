-- What is said is by the desk or by routing.
use Rattle.std.proofs.Common.{refl, subst, inl, inr}
use Rattle.std.proofs.lemmas.Result.{on_ok_weaker, IfErr-weaker}
use Rattle.std.specs.Io.KnownBytes.{Appends}
use Rattle.tfs_calls.specs.Refusal.{refusal_value}
use Rattle.tfs_calls.specs.Reply.{refused}
use Rattle.tfs_framing.specs.declared.request.Form.{Form}
use Rattle.tfs_http.specs.Lent.{WritesPart}
use Rattle.tfs_http.specs.ReplyText.{reply_text}
use Rattle.tfs_conversation.specs.Conversation.{replied, said_text}
use Rattle.tfs_conversation.proofs.IoLemmas.{part_of_said}
use Rattle.tfs_conversation.proofs.StepLemmas.{refused_by_routing}
use Rattle.tfs_conversation.proofs.conversation.reply_to.Goals as goal

pub returns-in-Ok-clause-err : goal.returns-in-Ok-clause-err
returns-in-Ok-clause-err g c =
    IfErr-weaker c.reply.result _ _
    (λ fault e. (
      e.0,
      inr (inr (c.in-Ok.call, c.in-Ok.ensures.ok, e.1)),
      part_of_said _ _ e.0 _ fault
          (λ may. subst (λ (f : Form). WritesPart (g.W.Outlet.contents c.args.writer.now) (g.W.Outlet.contents c.reply.new.writer) (said_text e.0 f) fault)
          c.requires.form (e.2 may).0)
          (λ shut. let none = e.3 shut in (none.0, none.1)),
    )) c.reply.ensures.err

pub returns-in-Err-clause-ok : goal.returns-in-Err-clause-ok
returns-in-Err-clause-ok g c =
    let refusal = refused (refusal_value c.in-Err.refusal) in
    on_ok_weaker c.send.result
    (λ written. (
      replied refusal,
      refused_by_routing g.D.OwedDesk.step _ c.args.request c.in-Err.refusal c.in-Err.ensures.err c.in-Err.ensures.memory,
      refl,
      subst (λ (f : Form). Appends (g.W.Outlet.contents c.args.writer.now) (g.W.Outlet.contents c.send.new.writer) (reply_text refusal f))
          c.requires.form written,
    )) c.send.ensures.ok

pub returns-in-Err-clause-err : goal.returns-in-Err-clause-err
returns-in-Err-clause-err g c =
    let refusal = refused (refusal_value c.in-Err.refusal) in
    IfErr-weaker c.send.result _ _
    (λ fault written. (
      replied refusal,
      refused_by_routing g.D.OwedDesk.step _ c.args.request c.in-Err.refusal c.in-Err.ensures.err c.in-Err.ensures.memory,
      (
        subst (λ (f : Form). WritesPart (g.W.Outlet.contents c.args.writer.now) (g.W.Outlet.contents c.send.new.writer) (reply_text refusal f) fault)
            c.requires.form written,
        inl refl,
      ),
    )) c.send.ensures.err
