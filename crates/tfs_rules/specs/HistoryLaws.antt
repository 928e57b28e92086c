-- The history laws: which acts may follow which, defined by positions and without the verdict.
use Rattle.std.specs.Prelude.{◌≡◌, ◌≤◌, ◌⊎◌, ℕ, List, ◌∷◌, ◌++◌, Contains, Option, Some, None}
use Rattle.tfs_state.specs.Document.{Document}
use Rattle.tfs_lock.specs.LockInfo.{LockInformation}
use Rattle.tfs_rules.specs.Act.{ActValue, lock, unlock, push, IsDelete, IsUnlock, IsWriteWith}
use Rattle.tfs_rules.specs.History.{History, Stands}

-- The act directly follows `before` in the history.
abbrev pub ComesBehind : History → History → ActValue → Type 0
ComesBehind h before act = (after : History) × (h ≡ before ++ act ∷ after)

-- The second document continues the first: it has the same lineage, its serial isn't lower, and its
-- text is the same if its serial is.
pub record IsPushOrder (first second : Document) : Type 0 where
  pub one_lineage : first.lineage ≡ second.lineage
  pub no_falling_serial : first.serial ≤ second.serial
  pub one_content : first.serial ≡ second.serial → first.bytes ≡ second.bytes

-- Push order: each push continues all earlier pushes since the last delete.
abbrev pub KeepsPushOrder : History → Type 0
KeepsPushOrder h = (before : History) (first second : Document) (first_id second_id : Option (List ℕ))
    → ComesBehind h before (push second_id second) → Stands before (push first_id first) IsDelete → IsPushOrder first second

-- Lock exclusion: while a lock is in effect, only a lock with the same text follows.
abbrev pub KeepsLockExclusion : History → Type 0
KeepsLockExclusion h = (before : History) (held info : LockInformation)
    → ComesBehind h before (lock info) → Stands before (lock held) IsUnlock → held.bytes ≡ info.bytes

-- Each write carries the identifier of the lock in effect, if there is one.
abbrev pub WritesBearTheLock : History → Type 0
WritesBearTheLock h = (before : History) (held : LockInformation) (write : ActValue) (id : Option (List ℕ))
    → ComesBehind h before write → Stands before (lock held) IsUnlock → IsWriteWith id write → id ≡ Some held.id

-- Each unlock carries the identifier of the lock in effect, if there is one, or no identifier.
abbrev pub UnlocksBearTheLock : History → Type 0
UnlocksBearTheLock h = (before : History) (held : LockInformation) (id : Option (List ℕ))
    → ComesBehind h before (unlock id) → Stands before (lock held) IsUnlock → (id ≡ Some held.id) ⊎ (id ≡ None)

-- The identifier of a write, if it has one, names a lock in effect.
abbrev pub IdentifiersNameALock : History → Type 0
IdentifiersNameALock h = (before : History) (write : ActValue) (id : List ℕ)
    → ComesBehind h before write → IsWriteWith (Some id) write → (held : LockInformation) × (held.id ≡ id) × Stands before (lock held) IsUnlock

-- The five laws.
pub record KeepsHistoryLaws (h : History) : Type 0 where
  pub pushes_keep_their_order : KeepsPushOrder h
  pub locks_exclude_one_another : KeepsLockExclusion h
  pub writes_bear_the_lock : WritesBearTheLock h
  pub unlocks_bear_the_lock : UnlocksBearTheLock h
  pub identifiers_name_a_lock : IdentifiersNameALock h

-- Locks with the same text have the same identifier.
abbrev pub LocksOfOneTextHaveOneIdentifier : History → Type 0
LocksOfOneTextHaveOneIdentifier h = (a b : LockInformation) → Contains h (lock a) → Contains h (lock b) → a.bytes ≡ b.bytes → a.id ≡ b.id
