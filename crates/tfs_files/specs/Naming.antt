-- How journals get their names, how older ones are retired, and why that fails.
use Rattle.std.specs.Prelude.{◌≡◌, ◌<◌, ◌⊎◌, ℕ, List, length, slice_index_or}
use Rattle.tfs_files.specs.FolderFacts.{sync_part, mark_part, look_for, name_part, name_copy, name_new, sync_names, retire, move_aside, HasFailed, Had, IsNamed, IsRetired, WasMovedAside, WasListed}
use Rattle.tfs_files.specs.declared.naming.NamingFault.{NamingFault}
use Rattle.tfs_files.specs.declared.naming.NamingFault.TheVariants.{Unnamed, Unsynced}
use Rattle.tfs_files.specs.declared.fault.CommandEnd.{CommandEnd}
use Rattle.tfs_files.specs.declared.fault.FaultPlace.TheVariants.{Journal}

-- Why a part file isn't marked: its sync or its mark failed.
abbrev pub IsUnmarked : List ℕ → ℕ → ℕ → Type 0
IsUnmarked folder part number = HasFailed folder (sync_part part) ⊎ HasFailed folder (mark_part part number)

-- Why a part file wasn't renamed to a journal: its sync, its mark or the renaming failed.
abbrev pub IsUnnamed : List ℕ → ℕ → ℕ → Type 0
IsUnnamed folder part number = IsUnmarked folder part number ⊎ HasFailed folder (name_part part number)

-- Why a new journal didn't get its name: the folder has a journal of its number, or couldn't be
-- searched for one, or the part file wasn't renamed.
abbrev pub IsUnnamedNew : List ℕ → ℕ → Type 0
IsUnnamedNew folder number = (Had folder number ⊎ HasFailed folder (look_for number)) ⊎ (IsUnmarked folder number number ⊎ HasFailed folder (name_new number))

-- Why a copy didn't get its name: its sync or the renaming failed.
abbrev pub IsUnnamedCopy : List ℕ → ℕ → Type 0
IsUnnamedCopy folder number = HasFailed folder (sync_part number) ⊎ HasFailed folder (name_copy number)

-- Why a part file isn't placed: it wasn't renamed, for a cause; or it was renamed, and the sync of
-- the folder's names failed.
abbrev pub HasCause : List ℕ → ℕ → ℕ → Type 0 → NamingFault → Type 0
HasCause folder part number cause (Unnamed error) = cause
HasCause folder part number cause (Unsynced error) = IsNamed folder part number × HasFailed folder sync_names

-- Why a journal isn't set aside durably: it wasn't renamed, or it was, and the sync of the folder's
-- names failed.
abbrev pub IsNotAside : List ℕ → ℕ → Type 0
IsNotAside folder number = HasFailed folder (move_aside number) ⊎ (WasMovedAside folder number × HasFailed folder sync_names)

-- Among the first `count` numbers, each journal before `next` is retired.
abbrev pub AreRetired : List ℕ → List ℕ → ℕ → ℕ → Type 0
AreRetired folder numbers next count =
    (k : ℕ) → k < count → slice_index_or numbers k 0 < next → IsRetired folder (slice_index_or numbers k 0)

-- The journals before this one, among all that the folder was found to have, are retired.
abbrev pub HasTidied : List ℕ → ℕ → Type 0
HasTidied folder number = (here : List ℕ) × (old : List ℕ) × WasListed folder here old × AreRetired folder here number (length here)

-- The journal of one of the numbers couldn't be retired, although it is before `next`. Those earlier
-- in the list are retired.
pub record StopsRetiring (folder numbers : List ℕ) (next : ℕ) (end : CommandEnd) : Type 0 where
  pub count : ℕ
  pub among : count < length numbers
  pub older : slice_index_or numbers count 0 < next
  pub before : AreRetired folder numbers next count
  pub failed : HasFailed folder (retire (slice_index_or numbers count 0) next)
  pub at : end.place ≡ Journal (slice_index_or numbers count 0)
