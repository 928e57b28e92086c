-- On the next connection the session advances: it has answered calls, and the text is of its
-- replies.
use Rattle.tfs_serve.proofs.Later.{later_itself, later_then}
use Rattle.tfs_serve.proofs.Working.{replied_on, replied_all, replied_nothing}
use Rattle.tfs_serve.proofs.serving.work_over.Goals as goal

pub loop-preserved : goal.loop-preserved
loop-preserved g c = (
  tt,
  tt,
  later_then _ _ _ c.loop.invariant.2 c.converse_next.ensures.later,
  replied_on _ _ _ _ _ _ _ _ _ _ _ _ _ _ c.loop.invariant.3 c.if-not-admit.ensures.heard c.converse_next.ensures.conversed.3
      c.converse_next.ensures.conversed.2,
)

pub loop-init : goal.loop-init
loop-init g c = (tt, tt, later_itself _, replied_nothing g.H.Hold.durable g.J.Naming.opening (g.G.Gate.told c.args.gate.now) c.args.session.now _)

pub returns-then-not-admit-clause-worked : goal.returns-then-not-admit-clause-worked
returns-then-not-admit-clause-worked g c = replied_all _ _ _ _ _ _ _ _ _ c.loop.invariant.3 c.if-not-admit.ensures.heard

pub returns-in-Err-clause-broken : goal.returns-in-Err-clause-broken
returns-in-Err-clause-broken g c =
    replied_on _ _ _ _ _ _ _ _ _ _ _ _ _ _ c.loop.invariant.3 c.if-not-admit.ensures.heard c.converse_next.ensures.conversed.3
    c.converse_next.ensures.conversed.2
