-- Facts about a folder of journals, by its path and the numbers of part files and journals. Each
-- stays true once it is known. No definition here unfolds in another file: a fact comes from the
-- call of `FolderFiles` that ensures it, and from nothing else.
use Rattle.std.specs.Prelude.{ℕ, List}
use Rattle.std.specs.Coded.{Unit-prop}

-- A call of `FolderFiles`, with its numbers.
pub data Call : Type 0 where
  sync_part : ℕ → Call
  mark_part : ℕ → ℕ → Call
  look_for : ℕ → Call
  name_part : ℕ → ℕ → Call
  name_copy : ℕ → Call
  name_new : ℕ → Call
  sync_names : Call
  remove_part : ℕ → Call
  retire : ℕ → ℕ → Call
  move_aside : ℕ → Call
  mark_discarded : ℕ → Call

-- The call failed.
pub HasFailed : List ℕ → Call → Type 0
HasFailed folder call = Unit {0}

-- The bytes and the length of the part file of this number are synced.
pub IsSynced : List ℕ → ℕ → Type 0
IsSynced folder part = Unit {0}

-- The folder's identity has a mark of this part file for the journal of the second number.
pub IsMarked : List ℕ → ℕ → ℕ → Type 0
IsMarked folder part number = Unit {0}

-- The folder had a journal of this number.
pub Had : List ℕ → ℕ → Type 0
Had folder number = Unit {0}

-- The folder had no journal of this number.
pub Lacked : List ℕ → ℕ → Type 0
Lacked folder number = Unit {0}

-- The part file, which was synced, was renamed to the journal of the second number.
pub IsNamed : List ℕ → ℕ → ℕ → Type 0
IsNamed folder part number = Unit {0}

-- The part file was renamed to the journal of its number, which the folder did not have.
pub IsNew : List ℕ → ℕ → Type 0
IsNew folder number = Unit {0}

-- The bytes and the name of the journal of this number are synced.
pub IsDurable : List ℕ → ℕ → Type 0
IsDurable folder number = Unit {0}

-- The part file of this number is removed.
pub IsRemoved : List ℕ → ℕ → Type 0
IsRemoved folder part = Unit {0}

-- The journal of this number is in `old/`, durably.
pub IsRetired : List ℕ → ℕ → Type 0
IsRetired folder number = Unit {0}

-- The journal of this number was renamed to `failed-start`.
pub WasMovedAside : List ℕ → ℕ → Type 0
WasMovedAside folder number = Unit {0}

-- The journal of this number was renamed to `failed-start`, durably.
pub IsAside : List ℕ → ℕ → Type 0
IsAside folder number = Unit {0}

-- The journal of this number is marked in `old/` as discarded.
pub IsDiscarded : List ℕ → ℕ → Type 0
IsDiscarded folder number = Unit {0}

-- The journal has the bytes of the part file.
pub HasBytesOf : List ℕ → ℕ → ℕ → Type 0
HasBytesOf folder number part = Unit {0}

-- The folder is marked durably as served.
pub IsServed : List ℕ → Type 0
IsServed folder = Unit {0}

-- The folder and its `old/` were listed, and had journals of these numbers.
pub WasListed : List ℕ → List ℕ → List ℕ → Type 0
WasListed folder here old = Unit {0}

-- The fact that a journal is durable has one proof.
pub IsDurable-prop : (folder : List ℕ) (number : ℕ) → IsProp (IsDurable folder number)
unfolding IsDurable
IsDurable-prop folder number = Unit-prop

-- What each call of the system is trusted to do. Only the proofs of these calls cite these lemmas.
pub host_failed : (folder : List ℕ) (call : Call) → HasFailed folder call
unfolding HasFailed
host_failed folder call = tt

pub host_synced : (folder : List ℕ) (part : ℕ) → IsSynced folder part
unfolding IsSynced
host_synced folder part = tt

pub host_marked : (folder : List ℕ) (part number : ℕ) → IsMarked folder part number
unfolding IsMarked
host_marked folder part number = tt

pub host_had : (folder : List ℕ) (number : ℕ) → Had folder number
unfolding Had
host_had folder number = tt

pub host_lacked : (folder : List ℕ) (number : ℕ) → Lacked folder number
unfolding Lacked
host_lacked folder number = tt

pub host_named : (folder : List ℕ) (part number : ℕ) → IsNamed folder part number
unfolding IsNamed
host_named folder part number = tt

pub host_new : (folder : List ℕ) (number : ℕ) → IsNew folder number
unfolding IsNew
host_new folder number = tt

pub host_durable : (folder : List ℕ) (number : ℕ) → IsDurable folder number
unfolding IsDurable
host_durable folder number = tt

pub host_removed : (folder : List ℕ) (part : ℕ) → IsRemoved folder part
unfolding IsRemoved
host_removed folder part = tt

pub host_retired : (folder : List ℕ) (number : ℕ) → IsRetired folder number
unfolding IsRetired
host_retired folder number = tt

pub host_moved_aside : (folder : List ℕ) (number : ℕ) → WasMovedAside folder number
unfolding WasMovedAside
host_moved_aside folder number = tt

pub host_aside : (folder : List ℕ) (number : ℕ) → IsAside folder number
unfolding IsAside
host_aside folder number = tt

pub host_discarded : (folder : List ℕ) (number : ℕ) → IsDiscarded folder number
unfolding IsDiscarded
host_discarded folder number = tt

pub host_has_bytes : (folder : List ℕ) (number part : ℕ) → HasBytesOf folder number part
unfolding HasBytesOf
host_has_bytes folder number part = tt

pub host_served : (folder : List ℕ) → IsServed folder
unfolding IsServed
host_served folder = tt

pub host_listed : (folder here old : List ℕ) → WasListed folder here old
unfolding WasListed
host_listed folder here old = tt
