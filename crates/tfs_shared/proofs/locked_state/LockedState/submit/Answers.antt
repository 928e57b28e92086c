-- The changes that the session has seen after its own.
use Rattle.std.proofs.Common.{refl, sym, ap}
use Rattle.tfs_shared.specs.View.{SessionView}
use Rattle.tfs_shared.proofs.Signing.{signs_nothing, signs_change, signs_counted}
use Rattle.tfs_shared.proofs.Stopping.{act_reports, counts_quiet}
use Rattle.tfs_shared.proofs.locked_state.LockedState.submit.Goals as goal

pub returns-then-not-is_covered-clause-signed : goal.returns-then-not-is_covered-clause-signed
returns-then-not-is_covered-clause-signed g c = signs_nothing _ _ _ refl c.is_kept-2.ensures.begins c.is_kept-2.ensures.counted

pub returns-then-is_ok-clause-signed : goal.returns-then-is_ok-clause-signed
returns-then-is_ok-clause-signed g c = signs_counted _ _ c.see.new.self _ _ _ _ _ _ c.count.ensures.value
    (signs_change c.change-answer.result g.J.Naming.opening _ _ c.args.session.now c.see.new.self c.self.inside.publisher.makers
    c.change-answer.new.publisher.makers c.number-maker.result c.change-answer.ensures.made c.change-answer.ensures.kept
    c.number-maker.ensures.value (ap (λ (v : SessionView). v.number) c.see.ensures.value) (c.if-not-is_covered.ensures.yes refl).1
    (ap (λ (v : SessionView). v.makers) c.see.ensures.value) c.is_kept-3.ensures.begins c.is_kept-3.ensures.counted)

pub returns-then-was_stopped-clause-signed : goal.returns-then-was_stopped-clause-signed
returns-then-was_stopped-clause-signed g c = signs_counted _ _ c.see.new.self _ _ _ _ _ _ c.stop.ensures.value
    (signs_change c.change-answer.result g.J.Naming.opening _ _ c.args.session.now c.see.new.self c.self.inside.publisher.makers
    c.change-answer.new.publisher.makers c.number-maker.result c.change-answer.ensures.made c.change-answer.ensures.kept
    c.number-maker.ensures.value (ap (λ (v : SessionView). v.number) c.see.ensures.value) (c.if-not-is_covered.ensures.yes refl).1
    (ap (λ (v : SessionView). v.makers) c.see.ensures.value) c.is_kept-3.ensures.begins c.is_kept-3.ensures.counted)

pub returns-then-stopped-clause-signed : goal.returns-then-stopped-clause-signed
returns-then-stopped-clause-signed g c = signs_counted _ _ c.see.new.self _ _ _ _ _ _ c.fault.ensures.value
    (signs_change c.change-answer.result g.J.Naming.opening _ _ c.args.session.now c.see.new.self c.self.inside.publisher.makers
    c.change-answer.new.publisher.makers c.number-maker.result c.change-answer.ensures.made c.change-answer.ensures.kept
    c.number-maker.ensures.value (ap (λ (v : SessionView). v.number) c.see.ensures.value) (c.if-not-is_covered.ensures.yes refl).1
    (ap (λ (v : SessionView). v.makers) c.see.ensures.value) c.is_kept-3.ensures.begins c.is_kept-3.ensures.counted)

pub returns-else-stopped-clause-signed : goal.returns-else-stopped-clause-signed
returns-else-stopped-clause-signed g c =
    signs_change c.change-answer.result g.J.Naming.opening _ _ c.args.session.now c.see.new.self c.self.inside.publisher.makers
    c.change-answer.new.publisher.makers c.number-maker.result c.change-answer.ensures.made c.change-answer.ensures.kept
    c.number-maker.ensures.value (ap (λ (v : SessionView). v.number) c.see.ensures.value) (c.if-not-is_covered.ensures.yes refl).1
    (ap (λ (v : SessionView). v.makers) c.see.ensures.value) c.is_kept-3.ensures.begins c.is_kept-3.ensures.counted

pub returns-else-stopped-clause-stops : goal.returns-else-stopped-clause-stops
returns-else-stopped-clause-stops g c =
    counts_quiet c.args.session.now c.see.new.self _ _ _
    (act_reports _ _ _ _ _ c.change-answer.ensures.answered (λ lacks. (c.change-answer.ensures.caused.memory lacks).running))
    (sym c.if-stopped.ensures.value) (ap (λ (v : SessionView). v.faulted) c.see.ensures.value) (ap (λ (v : SessionView). v.stopped) c.see.ensures.value)
