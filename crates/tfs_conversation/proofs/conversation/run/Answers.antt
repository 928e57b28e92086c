-- Each turn extends the earlier ones; the last one ends the conversation or breaks it off.
use Rattle.std.proofs.Common.{◌≡◌, Bool, Option, IfSome, Ok, Err, refl, ◌∙◌, ap, subst, inl, inr}
use Rattle.tfs_conversation.specs.declared.ended.Ended.{Ended}
use Rattle.tfs_conversation.specs.Turns.{moment, HasEnded}
use Rattle.tfs_conversation.proofs.ConversationLemmas.{went_nowhere, went_then, went_then_ended, went_then_stopped}
use Rattle.tfs_http.specs.Lent.{writing_failed}
use Rattle.tfs_http.specs.declared.fault.ServeFault.TheVariants.{Write}
use Rattle.tfs_conversation.proofs.conversation.run.Goals as goal

pub loop-end-init : goal.loop-end-init
loop-end-init g c = record { went = went_nowhere g.D.OwedDesk.step _; reader = refl; writer = refl }

pub returns-in-Some-clause-ended : goal.returns-in-Some-clause-ended
returns-in-Some-clause-ended g c =
    went_then_ended g.D.OwedDesk.step _ _ _ c.in-Some.ended c.loop-end.invariant.went
    (subst (λ (e : Option Ended). IfSome e (HasEnded g.D.OwedDesk.step
    (moment c.loop-end.desk (g.R.Source.remaining c.loop-end.reader, g.R.Source.taken c.loop-end.reader) (g.W.Outlet.contents c.loop-end.writer) c.loop-end.reads c.loop-end.connection.input)
    (moment c.turn.new.desk (g.R.Source.remaining c.turn.new.reader, g.R.Source.taken c.turn.new.reader) (g.W.Outlet.contents c.turn.new.writer) c.turn.new.reads c.turn.new.connection.input)))
    c.in-Some.is c.in-Ok.ensures.ended)

pub loop-end-preserved : goal.loop-end-preserved
loop-end-preserved g c = record {
  went = went_then g.D.OwedDesk.step _ _ _ c.loop-end.invariant.went (c.in-Ok.ensures.went (ap Ok c.in_default.is));
  reader = c.in-Ok.ensures.reader ∙ c.loop-end.invariant.reader;
  writer = elim c.in-Ok.ensures.writer [
    | inl same ↦ same ∙ c.loop-end.invariant.writer
    | inr w ↦ (let wrong = w.0 in absurd (cc))
  ];
}

pub returns-in-Err-clause-fault : goal.returns-in-Err-clause-fault
returns-in-Err-clause-fault g c = went_then_stopped g.D.OwedDesk.step _ _ _ c.in-Err.fault c.loop-end.invariant.went c.in-Err.ensures.fault

pub returns-in-Err-clause-writer : goal.returns-in-Err-clause-writer
returns-in-Err-clause-writer g c = elim c.in-Err.ensures.writer [
  | inl tells ↦ inl (subst (λ (f : Bool). g.W.Outlet.failed c.turn.new.writer ≡ writing_failed c.in-Err.fault f) c.loop-end.invariant.writer tells)
  | inr w ↦ (let is : c.in-Err.fault ≡ Write = cc w.0 in inr (ap Err is, w.1 ∙ c.loop-end.invariant.writer, w.2))
]
