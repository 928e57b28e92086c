-- A read is a step of the session.
use Rattle.std.proofs.Common.{refl}
use Rattle.tfs_serve.proofs.Steps.{counts_none, read_step, refused_read_step}
use Rattle.tfs_serve.proofs.Stopping.{counts_stop, read_quiet}
use Rattle.tfs_serve.proofs.session_desk.read.Goals as goal

pub returns-in-Ok : goal.returns-in-Ok
returns-in-Ok g c = (
  counts_none _ _ _ _ c.in-Ok.ensures.signed refl (counts_stop _ _ _ (refl, refl) c.in-Ok.ensures.counted),
  read_step _ _ _ _ _ c.in-Ok.ensures.answered c.in-Ok.ensures.counted.accepted refl,
)

pub returns-in-Err : goal.returns-in-Err
returns-in-Err g c = (
  counts_none _ _ _ _ c.in-Err.ensures.signed refl
      (counts_stop _ _ _ (read_quiet _ _ _ _ _ c.in-Err.ensures.answered) c.in-Err.ensures.counted),
  refused_read_step _ _ _ _ _ c.in-Err.ensures.answered c.in-Err.ensures.counted.accepted,
)
