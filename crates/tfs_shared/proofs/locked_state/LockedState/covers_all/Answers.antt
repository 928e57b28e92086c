-- The next session is covered too.
use Rattle.std.proofs.Common.{arith, refl}
use mathlib.Core.List.{IsPrefix}
use Rattle.tfs_published.specs.Beginning.{BeginsWith}
use Rattle.tfs_shared.specs.View.{SessionView}
use Rattle.tfs_shared.proofs.Shares.{each_more}
use Rattle.tfs_shared.proofs.Signing.{signed_all}
use Rattle.tfs_shared.proofs.locked_state.LockedState.covers_all.Goals as goal

pub loop-session-preserved : goal.loop-session-preserved
loop-session-preserved g c =
    let table = c.args.self.now.table in
    each_more (λ (session : SessionView). BeginsWith table.journal session.journal × IsPrefix session.makers c.args.self.now.publisher.makers)
    c.args.sessions.now c.loop-session.session-index c.session-item.result c.loop-session.invariant c.loop-session-test.true c.session-item.is
    (c.if-not-covers.ensures.yes refl)

pub returns-clause-yes : goal.returns-clause-yes
returns-clause-yes g c well k d within = (c.loop-session.invariant k d (omega (arith, within, c.loop-session-test.false))).0

pub returns-clause-signed : goal.returns-clause-signed
returns-clause-signed g c well =
    signed_all g.J.Naming.opening c.args.self.now.table.journal c.args.self.now.publisher.makers c.args.sessions.now c.is_kept.ensures.begins
    c.is_kept.ensures.made (λ k d within. (c.loop-session.invariant k d (omega (arith, within, c.loop-session-test.false))).1)
