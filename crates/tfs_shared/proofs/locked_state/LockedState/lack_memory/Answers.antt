-- `OutOfMemory` or `JournalStopped` is the reply over the table's journal.
use Rattle.std.proofs.Common.{refl, sym, ap, subst, ◌∙◌, inr}
use Rattle.tfs_records.specs.Journal.{Journal}
use Rattle.tfs_table.specs.Lawful.{IsLawful}
use Rattle.tfs_published.specs.Beginning.{BeginsWith}
use Rattle.tfs_shared.specs.LockedState.{LockedStateView}
use Rattle.tfs_shared.specs.View.{SessionView}
use Rattle.tfs_shared.proofs.Refusing.{lacks_memory, is_stopped}
use Rattle.tfs_shared.proofs.locked_state.LockedState.lack_memory.Goals as goal

pub returns-then-stopped-clause-answered : goal.returns-then-stopped-clause-answered
returns-then-stopped-clause-answered g c name act =
    let table = c.self.inside.table in
    let lawful = subst (λ (v : LockedStateView). IsLawful v.table.journal) (sym c.self.view_is) c.is_kept.ensures.table.lawful in
    let published = c.self.invariant.published.journal in
    let fresh = subst (λ (j : Journal). BeginsWith j c.args.session.now.journal) published (c.if-not-is_covered.ensures.yes refl).0 in
    inr (is_stopped name act c.args.session.now c.stop.new.self table.journal lawful fresh
    (ap (λ (v : SessionView). v.journal) c.stop.ensures.value ∙ ap (λ (v : SessionView). v.journal) c.see.ensures.value ∙ published))

pub returns-clause-answered : goal.returns-clause-answered
returns-clause-answered g c name act =
    let table = c.self.inside.table in
    let lawful = subst (λ (v : LockedStateView). IsLawful v.table.journal) (sym c.self.view_is) c.is_kept.ensures.table.lawful in
    let published = c.self.invariant.published.journal in
    let fresh = subst (λ (j : Journal). BeginsWith j c.args.session.now.journal) published (c.if-not-is_covered.ensures.yes refl).0 in
    inr (lacks_memory name act c.args.session.now c.see.new.self table.journal lawful fresh
    (ap (λ (v : SessionView). v.journal) c.see.ensures.value ∙ published))
