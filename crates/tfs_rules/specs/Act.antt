-- An act as histories list it: plain values instead of the pointers in the program's acts.
use Rattle.std.specs.Prelude.{◌≡◌, ℕ, List, Option, IfSome}
use Rattle.std.specs.Arc.{arc_value}
use Rattle.tfs_state.specs.Document.{Document}
use Rattle.tfs_state.specs.StateText.{SpellsDocument}
use Rattle.tfs_lock.specs.Id.{IsIdText}
use Rattle.tfs_lock.specs.LockInfo.{LockInformation}
use Rattle.tfs_lock.specs.LockText.{SpellsLockInfo}
use Rattle.tfs_rules.specs.declared.act.Act.{Act}
use Rattle.tfs_rules.specs.declared.act.Act.TheVariants.{Lock, Unlock, Push, Delete}

-- A lock makes its information the holder, an unlock removes the holder, a push makes its document
-- the state, and a delete removes the state. Each act except a lock carries the identifier of a
-- lock or None.
pub data ActValue : Type 0 where
  lock : LockInformation → ActValue
  unlock : Option (List ℕ) → ActValue
  push : Option (List ℕ) → Document → ActValue
  delete : Option (List ℕ) → ActValue

-- The values of an act.
abbrev pub act_value : Act → ActValue
act_value (Lock info) = lock (arc_value info)
act_value (Unlock id) = unlock id
act_value (Push id d) = push id (arc_value d)
act_value (Delete id) = delete id

-- The act's contents were read: its lock information and its document are the contents of their
-- bytes, and its identifier is valid.
abbrev pub IsRead : ActValue → Type 0
IsRead (lock info) = SpellsLockInfo info.bytes info
IsRead (unlock id) = IfSome id IsIdText
IsRead (push id d) = IfSome id IsIdText × SpellsDocument d.bytes d
IsRead (delete id) = IfSome id IsIdText

-- The act is a delete.
abbrev pub IsDelete : ActValue → Type 0
IsDelete (delete id) = Unit {0}
IsDelete _ = ⊥

-- The act is an unlock.
abbrev pub IsUnlock : ActValue → Type 0
IsUnlock (unlock id) = Unit {0}
IsUnlock _ = ⊥

-- The act is a lock or an unlock.
abbrev pub IsLockOrUnlock : ActValue → Type 0
IsLockOrUnlock (lock info) = Unit {0}
IsLockOrUnlock (unlock id) = Unit {0}
IsLockOrUnlock _ = ⊥

-- The act is a write: a push or a delete.
abbrev pub IsWrite : ActValue → Type 0
IsWrite (push id d) = Unit {0}
IsWrite (delete id) = Unit {0}
IsWrite _ = ⊥

-- The act is a write that carries `id`, which may be None.
abbrev pub IsWriteWith : Option (List ℕ) → ActValue → Type 0
IsWriteWith id (push given d) = given ≡ id
IsWriteWith id (delete given) = given ≡ id
IsWriteWith id _ = ⊥
