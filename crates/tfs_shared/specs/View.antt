-- What a session has seen: one journal, since of two journals of one history one is a prefix of the
-- other.
use Rattle.std.specs.Prelude.{◌≡◌, ◌<◌, ◌+◌, ◌%◌, ◌^◌, ℕ, Bool, true, false, cond, List, [], length, get_or}
use Rattle.tfs_records.specs.Journal.{Journal}
use Rattle.tfs_calls.specs.Reply.{ReplyValue}
use Rattle.tfs_shared.specs.Stops.{as_number, comes_faulted, reports_fault, reports_stop, weight}

-- The view of a session: its number, the journal that it has seen, the numbers of the sessions that
-- made that journal's changes beyond the opening one, the number of its own accepted changes,
-- whether it has the fault that stopped the table, whether it has reported that the table is
-- stopped, and the number of its impact queries that got no snapshot, modulo 2 to the 64th.
pub record SessionView : Type 0 where
  pub number : ℕ
  pub journal : Journal
  pub makers : List ℕ
  pub accepted : ℕ
  pub faulted : Bool
  pub stopped : Bool
  pub misses : ℕ

-- The view of a session, of a stopped table or not, that has seen the opening journal and has made
-- no changes.
abbrev pub new_session : Journal → Bool → ℕ → SessionView
new_session opening stopped number = record {
  number = number;
  journal = opening;
  makers = [];
  accepted = 0;
  faulted = comes_faulted stopped number;
  stopped = false;
  misses = 0;
}

-- The sessions, of a stopped table or not, are new, as many as `number`, and numbered from 0.
pub record AreNew (opening : Journal) (stopped : Bool) (number : ℕ) (sessions : List SessionView) : Type 0 where
  pub many : length sessions ≡ number
  pub each : (k : ℕ) (d : SessionView) → k < number → get_or sessions k d ≡ new_session opening stopped k

-- The ledger amount of a session.
abbrev pub counted_for : SessionView → ℕ
counted_for v = weight v.accepted v.faulted v.stopped

-- The session with one more accepted change.
abbrev pub accepts_one : SessionView → SessionView
accepts_one v = record v { accepted = v.accepted + 1 }

-- The session after it reported that the table is stopped; `faulted` says whether it has the fault.
abbrev pub reports : SessionView → Bool → SessionView
reports v faulted = record v { faulted = faulted; stopped = true }

-- The session after one more of its impact queries got no snapshot.
abbrev pub missed : SessionView → SessionView
missed v = record v { misses = (v.misses + 1) % 2 ^ 64 }

-- The session has counted a reply. If the reply reports a fault of the sink, the session has it
-- now, and had none before. If the reply reports that the table is stopped, so has the session.
-- Otherwise neither changes.
pub record CountsStop (old new : SessionView) (reply : ReplyValue) : Type 0 where
  pub faulted : as_number new.faulted ≡ as_number old.faulted + as_number (reports_fault reply)
  pub stopped : new.stopped ≡ cond (reports_stop reply) true old.stopped

-- The session's accepted changes, its fault and its report of a stopped table don't change.
pub record CountsNothing (old new : SessionView) : Type 0 where
  pub accepted : new.accepted ≡ old.accepted
  pub faulted : new.faulted ≡ old.faulted
  pub stopped : new.stopped ≡ old.stopped
