-- Lemmas: what may move to other threads, and what several threads may use.
use denote.RattleType.{RattleType}
use denote.Param.Send.{IsSend, IsSync, sendable}
use Rattle.std.proofs.Crossing.{crosses}
use Rattle.std.proofs.sync.ledger.Book.TheSendSync as book
use Rattle.std.specs.declared.sync.ledger.Ledger as ledger
use Rattle.tfs_records.specs.declared.sink.Sink as sink
use Rattle.tfs_records.proofs.base.Base.TheSendSync as base
use Rattle.tfs_records.proofs.entry.Entry.TheSendSync as entry
use Rattle.tfs_records.proofs.out.Out.TheSendSync as out
use Rattle.tfs_table.specs.contracts.table.Table as Table
use Rattle.tfs_table.proofs.workspace.Workspace.TheSendSync as workspace
use Rattle.tfs_published.specs.declared.naming.Naming as naming
use Rattle.tfs_shared.specs.contracts.locked_state.LockedState as LockedState
use Rattle.tfs_shared.specs.contracts.shared.Shared as Shared
use Rattle.tfs_published.proofs.point.Point.TheSendSync as point
use Rattle.tfs_published.proofs.publisher.Publisher.TheSendSync as publisher

-- A table may move to another thread if its sink may.
pub table_send : (K : RattleType) (g : sink.Ghosts K.Denot) → IsSend K → IsSend (Table.the_row K g)
table_send K g s = search (sendable, crosses, base.the_send, entry.the_send, out.the_send, workspace.the_send) depth 20

module _ (J K : RattleType) (n : naming.Ghosts J.Denot) (l : ledger.Ghosts J.Denot) (g : sink.Ghosts K.Denot) (s : IsSend K) where
  -- The data under the lock may move to another thread if the sink may.
  pub locked_state_send : IsSend (LockedState.the_row J K n l g)
  locked_state_send = search (sendable, table_send, publisher.the_send, book.the_send) depth 20

  -- A shared table may be used by several threads if its sink may move between them.
  pub shared_sync : IsSync (Shared.the_row J K n l g)
  shared_sync = search (sendable, crosses, locked_state_send, point.the_send) depth 20
