-- A change is a step of the session, whether its body is valid or not.
use Rattle.std.proofs.Common.{arith, refl}
use Rattle.tfs_calls.specs.Refusal.{refusal_value}
use Rattle.tfs_calls.specs.Reply.{done, refused}
use Rattle.tfs_shared.proofs.Signing.{signs_nothing}
use Rattle.tfs_serve.proofs.Steps.{counts_none, counts_one, draft_step, change_step}
use Rattle.tfs_serve.proofs.Stopping.{counts_same, counts_stop, draft_quiet}
use Rattle.tfs_serve.proofs.session_desk.change.Goals as goal

pub returns-in-Err : goal.returns-in-Err
returns-in-Err g c = (
  counts_none _ _ _ _ (signs_nothing _ _ _ refl c.is_kept.ensures.begins c.is_kept.ensures.counted) refl
      (counts_stop _ _ _ (draft_quiet c.args.raw (refusal_value c.in-Err.refusal) _ c.in-Err.ensures.err) (counts_same _)),
  draft_step _ _ _ _ (refusal_value c.in-Err.refusal) c.is_kept.ensures.lawful c.in-Err.ensures.err c.in-Err.ensures.memory,
)

pub returns-in-Ok-submit : goal.returns-in-Ok-submit
returns-in-Ok-submit g c =
    let reply = done c.in-Ok-submit.position in (
      counts_one _ _ _ c.in-Ok-submit.position c.in-Ok-submit.ensures.signed c.in-Ok-submit.ensures.numbered c.in-Ok-submit.ensures.stops,
      change_step _ _ _ c.args.name c.args.raw c.in-Ok.draft reply
          (λ before after. c.a_change_is_answered_as_its_act_is.ensures.call before after c.args.name c.args.raw c.in-Ok.draft reply c.in-Ok.ensures.ok)
          c.in-Ok.ensures.ok c.in-Ok-submit.ensures.answered c.in-Ok-submit.ensures.accepted,
    )

pub returns-in-Err-submit : goal.returns-in-Err-submit
returns-in-Err-submit g c =
    let reply = refused (refusal_value c.in-Err-submit.refusal) in (
      counts_none _ _ _ reply c.in-Err-submit.ensures.signed refl c.in-Err-submit.ensures.stops,
      change_step _ _ _ c.args.name c.args.raw c.in-Ok.draft reply
          (λ before after. c.a_change_is_answered_as_its_act_is.ensures.call before after c.args.name c.args.raw c.in-Ok.draft reply c.in-Ok.ensures.ok)
          c.in-Ok.ensures.ok c.in-Err-submit.ensures.answered (omega (arith, c.in-Err-submit.ensures.refused)),
    )
