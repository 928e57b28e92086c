-- What replies report of a stopped table, and the amounts in the ledger of a shared table.
use Rattle.std.specs.Prelude.{◌+◌, ◌*◌, ◌/◌, ◌%◌, ℕ, zero, suc, Bool, true, false}
use Rattle.tfs_calls.specs.Refusal.{RefusalValue, journal_fault, journal_stopped}
use Rattle.tfs_calls.specs.Reply.{ReplyValue, done, state, impact, refused}

-- 1 for true, 0 for false.
abbrev pub as_number : Bool → ℕ
as_number true = 1
as_number false = 0

-- Returns true if the refusal reports that the sink has just failed: `JournalFault`.
abbrev pub is_fault : RefusalValue → Bool
is_fault journal_fault = true
is_fault refusal = false

-- Returns true if the refusal reports that the table is stopped: the sink has just failed
-- (`JournalFault`), or had failed before (`JournalStopped`).
abbrev pub is_stop : RefusalValue → Bool
is_stop journal_fault = true
is_stop journal_stopped = true
is_stop refusal = false

-- Returns true if the reply reports that the sink has just failed.
abbrev pub reports_fault : ReplyValue → Bool
reports_fault (done position) = false
reports_fault (state d) = false
reports_fault (impact d chosen position) = false
reports_fault (refused refusal) = is_fault refusal

-- Returns true if the reply reports that the table is stopped.
abbrev pub reports_stop : ReplyValue → Bool
reports_stop (done position) = false
reports_stop (state d) = false
reports_stop (impact d chosen position) = false
reports_stop (refused refusal) = is_stop refusal

-- The ledger amount of a session: 1 for each of its accepted changes, at most 65,536; 2 to the 21st
-- if it has the fault that stopped the table; and 2 to the 26th if it has reported that the table
-- is stopped.
abbrev pub weight : ℕ → Bool → Bool → ℕ
weight accepted faulted stopped = accepted + 2097152 * as_number faulted + 67108864 * as_number stopped

-- The number of accepted changes in the total of at most 16 sessions.
abbrev pub accepted_of : ℕ → ℕ
accepted_of total = total % 2097152

-- The number of faults in such a total.
abbrev pub faults_of : ℕ → ℕ
faults_of total = total / 2097152 % 32

-- The number of sessions in such a total that have reported that the table is stopped.
abbrev pub stops_of : ℕ → ℕ
stops_of total = total / 67108864

-- Whether a new session has the fault of a table that was stopped when it was shared: only the
-- first session, number 0, has it.
abbrev pub comes_faulted : Bool → ℕ → Bool
comes_faulted stopped zero = stopped
comes_faulted stopped (suc number) = false
