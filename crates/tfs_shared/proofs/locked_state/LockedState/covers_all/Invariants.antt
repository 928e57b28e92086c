-- The table's journal and makers begin with those of each session so far.
use Rattle.std.proofs.Common.{ℕ, ◌<◌, get_or}
use mathlib.Core.List.{IsPrefix}
use Rattle.tfs_published.specs.Beginning.{BeginsWith}
use Rattle.tfs_shared.specs.View.{SessionView}
use Rattle.tfs_shared.proofs.locked_state.LockedState.covers_all.Given as goal

abbrev pub invariant-loop-session : goal.invariant-loop-session
invariant-loop-session g l = (k : ℕ) (d : SessionView) → k < l.session-index
    → BeginsWith l.self.table.journal (get_or l.sessions k d).journal × IsPrefix (get_or l.sessions k d).makers l.self.publisher.makers
