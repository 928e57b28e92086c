-- The steps of the borrowed desk are those of the desk over it. None withholds a reply or changes the
-- loan.
use Rattle.std.proofs.Common.{◌≡◌, true, false, sym, ◌∙◌, ap, inl, inr}
use Rattle.tfs_conversation.specs.Conversation.{Plainly, is_open}
use Rattle.tfs_conversation.proofs.StepLemmas.{ended_over, broken_over, call_keeps}
use Rattle.tfs_conversation.proofs.desk.converse_plainly.Goals as goal

pub returns-clause-loan : goal.returns-clause-loan
returns-clause-loan g c = call_keeps _ (λ d. d.desk.ghost_name) (λ old new call said step. step.0) _ _ _ _ _ _ _ _ _ _ _
    c.converse_owed.ensures.ended c.converse_owed.ensures.fault

pub returns-clause-ended : goal.returns-clause-ended
returns-clause-ended g c = ended_over _ (Plainly g.D.Desk.step) (λ d. d.desk.now) (λ old new call said step. step.1) _ _ _ _ _ _ _ _ _ _ _
    c.converse_owed.ensures.ended

pub returns-clause-fault : goal.returns-clause-fault
returns-clause-fault g c = broken_over _ (Plainly g.D.Desk.step) (λ d. d.desk.now) (λ old new call said step. step.1) _ _ _ _ _ _ _ _ _ _ _
    c.converse_owed.ensures.fault

pub returns-clause-writer : goal.returns-clause-writer
returns-clause-writer g c = elim c.converse_owed.ensures.writer [
  | inl told ↦ told
  | inr w ↦ (let wrong : true ≡ false = sym (ap is_open w.2.4.1.1) ∙ w.2.5 in absurd (cc))
]
