-- The data under the lock of a shared table.
use Rattle.std.specs.Prelude.{◌≡◌, ℕ, ◌+◌, ◌≤◌, length, true, false, None}
use Rattle.tfs_records.specs.Journal.{Journal, EntryValue}
use Rattle.tfs_calls.specs.Refusal.{out_of_memory, journal_fault}
use Rattle.tfs_calls.specs.Reply.{ReplyValue, refused}
use Rattle.tfs_calls.specs.Transition.{MayLackMemory}
use Rattle.tfs_table.specs.Table.{TableValue, IsFaultAt, model_of}
use Rattle.tfs_published.specs.Publisher.{PublisherView}
use Rattle.tfs_shared.specs.Stops.{as_number, accepted_of, faults_of, stops_of}

-- The view of callers: the table, its publisher, and the total of the ledger for all sessions.
pub record LockedStateView : Type 0 where
  pub table : TableValue
  pub publisher : PublisherView
  pub total : ℕ

-- The published journal is the table's and, unless the table is stopped, no other change is staged.
pub record ArePublished (table : TableValue) (publisher : PublisherView) : Type 0 where
  pub journal : publisher.journal ≡ table.journal
  pub idle : table.stopped ≡ false → publisher.next ≡ None

-- The invariant whenever the lock is free: the table's journal is published, and beyond the opening
-- entries it has as many entries as accepted changes. The table is stopped if and only if exactly
-- one session has its fault; otherwise none has. It is stopped if any session has reported so.
pub record IsLockedState (opening : Journal) (locked_state : LockedStateView) : Type 0 where
  pub published : ArePublished locked_state.table locked_state.publisher
  pub counted : length locked_state.table.journal.entries ≡ length opening.entries + accepted_of locked_state.total
  pub faulted : faults_of locked_state.total ≡ as_number locked_state.table.stopped
  pub stopped : 1 ≤ stops_of locked_state.total → locked_state.table.stopped ≡ true

-- The causes of the refusals that the journal doesn't determine. `JournalFault`: the sink failed at
-- the record of this change, after some first bytes of it were written, perhaps none or all.
-- `OutOfMemory`: the change may allocate, and the table isn't stopped.
pub record HasCause (old new : TableValue) (e : EntryValue) (reply : ReplyValue) : Type 0 where
  pub fault : reply ≡ refused journal_fault → IsFaultAt old new e
  pub memory : reply ≡ refused out_of_memory → MayLackMemory (model_of old) e.name e.act
