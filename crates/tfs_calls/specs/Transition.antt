-- The transition of a table: given a call, it leads from a journal, and whether the table is
-- stopped, to a reply, a journal, and whether the table is stopped then.
use Rattle.std.specs.Prelude.{◌≡◌, ◌+◌, ◌⊎◌, ℕ, Bool, true, false, not, ◌&&◌, nat_le, List, length, if◌then◌else◌, Option, Some, None}
use Rattle.std.specs.Prelude.{is_some}
use Rattle.std.specs.List.{list_any}
use Rattle.std.specs.Option.{option_map_or, option_or}
use Rattle.std.specs.Str.{bytes_eq}
use Rattle.tfs_lock.specs.LockInfo.{LockInformation}
use Rattle.tfs_rules.specs.Act.{ActValue}
use Rattle.tfs_rules.specs.History.{History, state_of, holder_of}
use Rattle.tfs_rules.specs.Verdict.{verdict_of}
use Rattle.tfs_rules.specs.declared.verdict.Verdict.{Verdict}
use Rattle.tfs_rules.specs.declared.verdict.Verdict.TheVariants as verdict
use Rattle.tfs_records.specs.Journal.{Journal, acts_of, names_of, position_of, with_entry}
use Rattle.tfs_calls.specs.Draft.{act_of, draft_refusal}
use Rattle.tfs_state.specs.Document.{Document}
use Rattle.tfs_calls.specs.Impact.{chosen_by, query_refusal}
use Rattle.tfs_calls.specs.declared.query.Query.{Query}
use Rattle.tfs_calls.specs.Refusal.{RefusalValue, journal_stopped, locked, lock_lost, lineage_differs, serial_too_low}
use Rattle.tfs_calls.specs.Refusal.{serial_reused, no_state, table_full, journal_full, out_of_memory, journal_fault}
use Rattle.tfs_calls.specs.Reply.{ReplyValue, done, state, impact, refused}
use Rattle.tfs_calls.specs.declared.call.Call.{Call}
use Rattle.tfs_calls.specs.declared.call.Call.TheVariants.{Read, Change, Impact}

-- The model of a table: its journal, and whether it is stopped.
pub record TableModel : Type 0 where
  pub journal : Journal
  pub stopped : Bool

-- The refusal for a verdict, given the holder, whom `Locked` reports; none for `Accept`. (The
-- verdict is never `Locked` if there is no holder.)
abbrev pub refusal_of : Option LockInformation → Verdict → Option RefusalValue
refusal_of holder verdict.Accept = None
refusal_of holder verdict.Locked = Some (option_map_or locked holder lock_lost)
refusal_of holder verdict.LockLost = Some lock_lost
refusal_of holder verdict.LineageDiffers = Some lineage_differs
refusal_of holder verdict.SerialTooLow = Some serial_too_low
refusal_of holder verdict.SerialReused = Some serial_reused

-- The refusal of an act by the rules, given the history of its name.
abbrev pub verdict_refusal : History → ActValue → Option RefusalValue
verdict_refusal h act = refusal_of (holder_of h) (verdict_of h act)

-- The refusal by the table's limits, given the number of names, whether the name is new, and the
-- number of entries: TableFull for a new name if there are 1,024 names, JournalFull if there are
-- 65,536 entries.
abbrev pub full_refusal : ℕ → Bool → ℕ → Option RefusalValue
full_refusal names is_new entries = if nat_le 1024 names && is_new then Some table_full
    else (if nat_le 65536 entries then Some journal_full else None)

-- The refusal of a change of this name by the table's limits, given the journal.
abbrev pub limit_refusal : Journal → List ℕ → Option RefusalValue
limit_refusal j name = full_refusal (length (names_of j)) (not (list_any (bytes_eq name) (names_of j))) (length j.entries)

-- A table that isn't stopped.
abbrev pub open_model : Journal → TableModel
open_model j = record { journal = j; stopped = false }

-- The refusal of an act, or none if it is accepted. A stopped table refuses each act; then the
-- verdict decides, then the limits.
abbrev pub act_refusal : TableModel → List ℕ → ActValue → Option RefusalValue
act_refusal m name act = if m.stopped then Some journal_stopped
    else option_or (verdict_refusal (acts_of name m.journal) act) (limit_refusal m.journal name)

-- The model's reply to an act.
abbrev pub act_answer : TableModel → List ℕ → ActValue → ReplyValue
act_answer m name act = option_map_or refused (act_refusal m name act) (done (position_of m.journal + 1))

-- The journal after an act: with one more entry if the act is accepted.
abbrev pub journal_after_act : TableModel → List ℕ → ActValue → Journal
journal_after_act m name act = if is_some (act_refusal m name act) then m.journal else with_entry m.journal (record {
  name = name;
  act =
      act;
})

-- The table with another journal, otherwise unchanged.
abbrev with_journal : TableModel → Journal → TableModel
with_journal m j = record { journal = j; stopped = m.stopped }

-- The reply is the model's answer to an act, and the table is as that leaves it.
abbrev pub GivesActAnswer : TableModel → List ℕ → ActValue → ReplyValue → TableModel → Type 0
GivesActAnswer m name act reply m' = (reply ≡ act_answer m name act) × (m' ≡ with_journal m (journal_after_act m name act))

-- Memory was refused: the reply is OutOfMemory, and nothing changed.
abbrev pub LacksMemory : TableModel → ReplyValue → TableModel → Type 0
LacksMemory m reply m' = (reply ≡ refused out_of_memory) × (m' ≡ m)

-- Judging this act may need memory: to accept it, or to report who holds the lock. A stopped table
-- needs none.
pub record MayLackMemory (m : TableModel) (name : List ℕ) (act : ActValue) : Type 0 where
  pub running : m.stopped ≡ false
  pub needs : (verdict_of (acts_of name m.journal) act ≡ verdict.Locked) ⊎ (act_refusal m name act ≡ None)

-- The sink failed at an act that the model accepts: the journal is unchanged, and the table is
-- stopped.
abbrev pub FaultsAct : TableModel → List ℕ → ActValue → ReplyValue → TableModel → Type 0
FaultsAct m name act reply m' = (act_refusal m name act ≡ None) × (reply ≡ refused journal_fault)
    × (m' ≡ record { journal = m.journal; stopped = true })

-- The transition by an act that was read, for a table whose journal is written to a sink.
abbrev pub AnswersAct : TableModel → List ℕ → ActValue → ReplyValue → TableModel → Type 0
AnswersAct m name act reply m' = (GivesActAnswer m name act reply m' ⊎ LacksMemory m reply m') ⊎ FaultsAct m name act reply m'

-- The model's reply to a query over a state: the refusal by the first fault of its texts, or the
-- instances that it chooses.
abbrev pub query_answer : Journal → Query → Document → ReplyValue
query_answer j query d = option_map_or refused (query_refusal d query) (impact d (chosen_by d query) (position_of j))

-- The model's reply to a call. A change gets the reply to its act, or the refusal of its texts.
abbrev pub answer_of : TableModel → Call → ReplyValue
answer_of m (Read name) = option_map_or state (state_of (acts_of name m.journal)) (refused no_state)
answer_of m (Impact name query) = option_map_or (query_answer m.journal query) (state_of (acts_of name m.journal)) (refused no_state)
answer_of m (Change name raw) = option_map_or (act_answer m name) (act_of raw) (refused (draft_refusal raw))

-- The journal after a call.
abbrev pub journal_after : TableModel → Call → Journal
journal_after m (Read name) = m.journal
journal_after m (Impact name query) = m.journal
journal_after m (Change name raw) = option_map_or (journal_after_act m name) (act_of raw) m.journal

-- The reply is the model's answer to a call, and the table is as that leaves it.
abbrev pub GivesAnswer : TableModel → Call → ReplyValue → TableModel → Type 0
GivesAnswer m call reply m' = (reply ≡ answer_of m call) × (m' ≡ with_journal m (journal_after m call))

-- The sink failed at a change that the model accepts.
abbrev pub FaultsJournal : TableModel → Call → ReplyValue → TableModel → Type 0
FaultsJournal m (Read name) reply m' = ⊥
FaultsJournal m (Impact name query) reply m' = ⊥
FaultsJournal m (Change name raw) reply m' = (act : ActValue) × (act_of raw ≡ Some act) × FaultsAct m name act reply m'

-- The transition of a table whose journal is kept in memory only.
abbrev pub AnswersInMemory : TableModel → Call → ReplyValue → TableModel → Type 0
AnswersInMemory m call reply m' = GivesAnswer m call reply m' ⊎ LacksMemory m reply m'

-- The transition of a table whose journal is written to a sink.
abbrev pub Answers : TableModel → Call → ReplyValue → TableModel → Type 0
Answers m call reply m' = AnswersInMemory m call reply m' ⊎ FaultsJournal m call reply m'
