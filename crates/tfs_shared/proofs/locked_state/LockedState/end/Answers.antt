-- All sessions are given back, so that the total has exactly their counts.
use Rattle.std.proofs.Common.{◌+◌, length, ◌∙◌, sym, ap, arith}
use Rattle.tfs_shared.proofs.Shares.{all_counted, not_none, one_stopped}
use Rattle.tfs_shared.proofs.locked_state.LockedState.end.Goals as goal
use Rattle.tfs_shared.proofs.locked_state.LockedState.end.Goals.{in-Some, in_default}

pub returns-clause-counted : goal.returns-clause-counted
returns-clause-counted g c = elim c.match-merge_shares.branch [
  | in-Some w ↦
      let counted = all_counted c.args.sessions.items _ _ _ _ w.in-Some.ensures.parts w.in-Some.ensures.apart c.requires.all c.requires.some.1
      w.audit.ensures.whole w.in-Some.ensures.amount w.in-Some.ensures.few in
      c.self.invariant.counted ∙ ap (λ n. length g.J.Naming.opening.entries + n) counted.accepted
  | in_default w ↦ absurd (not_none c.args.sessions.items _ w.in_default.ensures.none c.requires.some.0 c.requires.all)
]

pub returns-clause-faulted : goal.returns-clause-faulted
returns-clause-faulted g c = elim c.match-merge_shares.branch [
  | in-Some w ↦
      let counted = all_counted c.args.sessions.items _ _ _ _ w.in-Some.ensures.parts w.in-Some.ensures.apart c.requires.all c.requires.some.1
      w.audit.ensures.whole w.in-Some.ensures.amount w.in-Some.ensures.few in
      sym counted.faulted ∙ c.self.invariant.faulted
  | in_default w ↦ absurd (not_none c.args.sessions.items _ w.in_default.ensures.none c.requires.some.0 c.requires.all)
]

pub returns-clause-stopped : goal.returns-clause-stopped
returns-clause-stopped g c k d within is = elim c.match-merge_shares.branch [
  | in-Some w ↦
      let counted = all_counted c.args.sessions.items _ _ _ _ w.in-Some.ensures.parts w.in-Some.ensures.apart c.requires.all c.requires.some.1
      w.audit.ensures.whole w.in-Some.ensures.amount w.in-Some.ensures.few in
      c.self.invariant.stopped (omega (arith, counted.stopped, one_stopped c.args.sessions.items k d within is))
  | in_default w ↦ absurd (not_none c.args.sessions.items _ w.in_default.ensures.none c.requires.some.0 c.requires.all)
]
