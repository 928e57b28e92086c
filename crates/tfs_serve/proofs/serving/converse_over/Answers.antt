-- The steps of the desk keep both loans, and the session advances; the text is of its replies.
use Rattle.tfs_serve.specs.Session.{IsLater, reply_said}
use Rattle.tfs_serve.proofs.Later.{later_itself, later_then, caught_up_later}
use Rattle.tfs_serve.proofs.Reaching.{talk_keeps, talk_reaches}
use Rattle.tfs_serve.proofs.Working.{conversed}
use Rattle.tfs_serve.proofs.serving.converse_over.Goals as goal

pub returns-clause-loan : goal.returns-clause-loan
returns-clause-loan g c = (
  talk_keeps _ (λ d. d.session.ghost_name) (λ old new call said step. step.0) _ _ _ _ c.converse_owed.ensures.talked.4,
  talk_keeps _ (λ d. d.gate.ghost_name) (λ old new call said step. step.1) _ _ _ _ c.converse_owed.ensures.talked.4,
)

pub returns-clause-later : goal.returns-clause-later
returns-clause-later g c = talk_reaches _ (λ a b. IsLater a.session.now b.session.now) (λ s. later_itself s.session.now)
    (λ a b d p q. later_then a.session.now b.session.now d.session.now p q)
    (λ old new call said step. caught_up_later g.J.Naming.opening old.session.now new.session.now call (reply_said said) step.2.step) _ _ _ _
    c.converse_owed.ensures.talked.4

pub returns-clause-conversed : goal.returns-clause-conversed
returns-clause-conversed g c = (
  c.converse_owed.ensures.talked.0,
  c.converse_owed.ensures.talked.1,
  record { has_read = c.converse_owed.ensures.talked.2; has_written = c.converse_owed.ensures.talked.3 },
  conversed _ g.H.Hold.durable g.J.Naming.opening (λ d. d.session.now) (λ d. g.G.Gate.told d.gate.now)
      (λ old new call said step. (step.2, step.3)) _ _ _ _ c.converse_owed.ensures.talked.4,
)
