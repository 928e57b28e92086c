-- The steps of the borrowed desk are those of the desk over it, and don't change the loan.
use Rattle.tfs_conversation.specs.Conversation.{Plainly}
use Rattle.tfs_conversation.proofs.StepLemmas.{spoken_keeps, spoken_over}
use Rattle.tfs_connections.proofs.reception.Reception.converse_plainly.Goals as goal

pub returns-clause-loan : goal.returns-clause-loan
returns-clause-loan g c =
    let talked = c.converse_owed.ensures.talked in
    spoken_keeps _ (λ d. d.desk.ghost_name) (λ old new call said step. step.0) _ _ talked.0 talked.1 talked.4

pub returns-clause-talked : goal.returns-clause-talked
returns-clause-talked g c =
    let talked = c.converse_owed.ensures.talked in (
      talked.0,
      talked.1,
      talked.2,
      talked.3,
      spoken_over _ (Plainly g.D.Desk.step) (λ d. d.desk.now) (λ old new call said step. step.1) _ _ talked.0 talked.1 talked.4,
    )
