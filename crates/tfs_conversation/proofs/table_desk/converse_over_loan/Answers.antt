-- The steps of the desk are steps of its table, and don't change the loan.
use Rattle.tfs_conversation.specs.Conversation.{Plainly}
use Rattle.tfs_conversation.specs.Desk.{AnswersCall}
use Rattle.tfs_conversation.proofs.DeskLemmas.{still_tells}
use Rattle.tfs_conversation.proofs.StepLemmas.{ended_over, broken_over, call_keeps}
use Rattle.tfs_conversation.proofs.table_desk.converse_over_loan.Goals as goal

pub returns-clause-loan : goal.returns-clause-loan
returns-clause-loan g c = call_keeps _ (λ d. d.table.ghost_name) (λ old new call said step. step.2.0) _ _ _ _ _ _ _ _ _ _ _
    c.converse.ensures.ended c.converse.ensures.fault

pub returns-clause-ended : goal.returns-clause-ended
returns-clause-ended g c = ended_over _ (Plainly AnswersCall) (λ d. d.table.now) (λ old new call said step. (step.0, step.1, step.2.1)) _ _ _ _ _ _ _ _ _ _ _
    c.converse.ensures.ended

pub returns-clause-fault : goal.returns-clause-fault
returns-clause-fault g c = broken_over _ (Plainly AnswersCall) (λ d. d.table.now) (λ old new call said step. (step.0, step.1, step.2.1)) _ _ _ _ _ _ _ _ _ _ _
    c.converse.ensures.fault

pub returns-clause-tells : goal.returns-clause-tells
returns-clause-tells g c = call_keeps _ (λ d. d.table.now.tells)
    (λ old new call said step. still_tells old.table.now new.table.now call step.0 step.2.1) _ _ _ _ _ _ _ _ _ _ _
    c.converse.ensures.ended c.converse.ensures.fault
