-- A query is a step of the session.
use Rattle.std.proofs.Common.{refl}
use Rattle.tfs_serve.proofs.Steps.{counts_none, impact_step}
use Rattle.tfs_serve.proofs.Stopping.{counts_stop, impact_quiet}
use Rattle.tfs_serve.proofs.session_desk.ask.Goals as goal

pub returns-in-Ok : goal.returns-in-Ok
returns-in-Ok g c = (
  counts_none _ _ _ _ c.in-Ok.ensures.signed refl (counts_stop _ _ _ (refl, refl) c.in-Ok.ensures.counted),
  impact_step g.J.Naming.opening _ _ _ _ _ c.answers_of_the_model_are_undisturbed.ensures.memory c.in-Ok.ensures.answer c.in-Ok.ensures.later c.in-Ok.ensures.counted.accepted refl,
)

pub returns-in-Err : goal.returns-in-Err
returns-in-Err g c = (
  counts_none _ _ _ _ c.in-Err.ensures.signed refl
      (counts_stop _ _ _ (impact_quiet _ _ _ _ _ c.in-Err.ensures.answer) c.in-Err.ensures.counted),
  impact_step g.J.Naming.opening _ _ _ _ _ c.answers_of_the_model_are_undisturbed.ensures.memory c.in-Err.ensures.answer c.in-Err.ensures.later c.in-Err.ensures.counted.accepted refl,
)
