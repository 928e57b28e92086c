-- The replies of a worker over the journal that a run leaves.
use Rattle.std.specs.Prelude.{◌≡◌, ◌⊎◌, ◌+◌, ◌<◌, ℕ, All, Bool, true, List, [], ◌∷◌, ◌++◌, length, get_or, flat_map, sum_by, Option, is_some}
use Rattle.tfs_records.specs.Journal.{Journal, position_of}
use Rattle.tfs_calls.specs.declared.call.Call.{Call}
use Rattle.tfs_calls.specs.declared.call.Call.TheVariants.{Read, Change, Impact}
use Rattle.tfs_calls.specs.Refusal.{no_copy, out_of_memory}
use Rattle.tfs_calls.specs.Reply.{refused}
use Rattle.tfs_calls.specs.Transition.{TableModel, Answers}
use Rattle.tfs_conversation.specs.Desk.{CallMayLackMemory}
use Rattle.tfs_table.specs.Lawful.{IsLawful}
use Rattle.tfs_published.specs.Beginning.{BeginsWith}
use Rattle.tfs_shared.specs.Stops.{as_number, reports_fault, reports_stop}
use Rattle.tfs_connections.specs.declared.accepting.AcceptFault.{AcceptFault}
use Rattle.tfs_serve.specs.Faults.{IsCaused}
use Rattle.tfs_serve.specs.Gate.{Event, Hears}
use Rattle.tfs_serve.specs.Session.{accepted_by}
use Rattle.tfs_serve.specs.Standing.{AcceptedStand}
use Rattle.tfs_serve.specs.Told.{positions_told, AreToldOnce}
use Rattle.tfs_serve.specs.Working.{Answer, AreReplied, heard_of_connection, end_of_work}
use Rattle.tfs_serve.specs.declared.run.Served.{Served}

-- The reply is the transition of a table over a lawful prefix of the last journal, which begins
-- with all that had been seen. The journal after the transition, a lawful prefix too, is what has
-- been seen then.
pub record RepliesOver (last seen : Journal) (a : Answer) : Type 0 where
  pub before : TableModel
  pub after : TableModel
  pub fresh : BeginsWith before.journal seen
  pub answer : Answers before a.call a.reply after
  pub memory : a.reply ≡ refused out_of_memory → CallMayLackMemory before a.call
  pub leaves : after.journal ≡ a.seen
  pub stood : BeginsWith last before.journal
  pub stands : BeginsWith last a.seen
  pub was_lawful : IsLawful before.journal
  pub is_lawful : IsLawful a.seen

-- The calls that `NoCopy` may refuse: impact queries, and changes and reads of a worker that has
-- seen more than the opening journal.
abbrev pub MayLackCopy : Journal → Journal → Call → Type 0
MayLackCopy opening seen (Read name) = position_of opening < position_of seen
MayLackCopy opening seen (Change name raw) = position_of opening < position_of seen
MayLackCopy opening seen (Impact name query) = Unit {0}

-- The refusal `NoCopy`, if the call may get it over what has been seen then. That may be more than
-- before: the worker catches up with what others' replies have reported.
pub record RepliesNoCopy (opening last seen : Journal) (a : Answer) : Type 0 where
  pub reply : a.reply ≡ refused no_copy
  pub later : BeginsWith a.seen seen
  pub stands : BeginsWith last a.seen
  pub may : MayLackCopy opening a.seen a.call

-- One reply: over such a journal, or `NoCopy`.
abbrev pub Replies : Journal → Journal → Journal → Answer → Type 0
Replies opening last seen a = RepliesNoCopy opening last seen a ⊎ RepliesOver last seen a

-- The replies of one worker in order, each after what had been seen up to the previous one.
abbrev pub RepliesInTurn : Journal → Journal → Journal → List Answer → Journal → Type 0
RepliesInTurn opening last seen [] end = end ≡ seen
RepliesInTurn opening last seen (a ∷ more) end = Replies opening last seen a × RepliesInTurn opening last a.seen more end

-- The number of changes that replies report as accepted.
abbrev pub accepted_in : List Answer → ℕ
accepted_in = sum_by (λ a. accepted_by a.reply)

-- The number of replies that report a fault of the sink.
abbrev pub faults_in : List Answer → ℕ
faults_in = sum_by (λ a. as_number (reports_fault a.reply))

-- The table is stopped if any of the replies reports that it is.
abbrev pub StopsLast : Bool → List Answer → Type 0
StopsLast stopped = All (λ a. reports_stop a.reply ≡ true → stopped ≡ true)

-- The answers on all connections, in order.
abbrev pub answers_on : List (List Answer) → List Answer
answers_on = flat_map (λ answers. answers)

-- The view of a worker's outcome: the events that its gate heard, whether the listener failed and
-- with which fault, the position of what the worker has seen, the number of changes that it
-- reported as accepted, and the bytes read from each of its connections and written to it.
pub record ServedView : Type 0 where
  pub told : Option (List Event)
  pub failed : Bool
  pub fault : Option AcceptFault
  pub seen : ℕ
  pub accepted : ℕ
  pub read : List (List ℕ)
  pub written : List (List ℕ)

-- The view of an outcome, given the events that gates of its type hear.
abbrev pub served_view : {G : Type 0} → (G → Option (List Event)) → Served G → ServedView
served_view told served = record {
  told = told served.gate;
  failed = served.failed;
  fault = served.fault;
  seen = served.seen;
  accepted = served.accepted;
  read = served.written.value.read;
  written = served.written.value.texts;
}

-- A worker of a run from an opening journal to a last one, which answered on these connections. Its
-- gate has heard of each connection that it was asked for and of each call and reply on these, in
-- order, and of nothing else. The replies are those of a session that starts from the opening
-- journal, and each accepted change is in the last journal at the reported position. The bytes read
-- from each connection and written to it are those of a conversation with the answers on it, whose
-- written replies are over durable bytes of the journal.
pub record IsServed (durable : ℕ → Type 0) (opening last : Journal) (connections : List (List Answer)) (told : Option (List Event))
    (served : ServedView) : Type 0
  where
    pub heard : Hears told served.told (flat_map heard_of_connection connections ++ end_of_work served.failed)
    pub view : Journal
    pub replies : RepliesInTurn opening last opening (answers_on connections) view
    pub stand : AcceptedStand last (answers_on connections)
    pub failed_is : served.failed ≡ is_some served.fault
    pub caused : IsCaused served.fault
    pub seen_is : served.seen ≡ position_of view
    pub accepted_is : served.accepted ≡ accepted_in (answers_on connections)
    pub replied : AreReplied durable connections served.read served.written

-- A run from an opening journal to a last one, with a worker for each gate, given the events that
-- the gates had heard before. The last journal is lawful and begins with the opening one. Each
-- worker has served its connections: before a byte of a reply is written, the bytes of the journal
-- that it was answered over are durable. Beyond the opening entries there are as many as changes
-- were reported as accepted, and each of their positions is reported by exactly one reply. The
-- table is stopped after the run (`is`) if and only if it was stopped before (`was`) or exactly one
-- reply of all workers reports a fault of the sink; if it was stopped before, no reply does. If any
-- reply reports that the table is stopped, it is stopped after the run.
pub record IsRun (durable : ℕ → Type 0) (opening last : Journal) (was is : Bool) (told : List (Option (List Event))) (served : List ServedView) : Type 0
  where
    pub lawful : IsLawful last
    pub begins : BeginsWith last opening
    pub connections : List (List (List Answer))
    pub each : (length connections ≡ length told) × (length served ≡ length told)
    pub workers : (i : ℕ) (t : Option (List Event)) (s : ServedView) → i < length told
        → IsServed durable opening last (get_or connections i []) (get_or told i t) (get_or served i s)
    pub grows : length last.entries ≡ length opening.entries + sum_by (λ (s : ServedView). s.accepted) served
    pub once : AreToldOnce opening last (flat_map (λ (answers : List (List Answer)). positions_told (answers_on answers)) connections)
    pub faulted : as_number is ≡ as_number was + sum_by (λ (answers : List (List Answer)). faults_in (answers_on answers)) connections
    pub stopped : (i : ℕ) → i < length connections → StopsLast is (answers_on (get_or connections i []))
