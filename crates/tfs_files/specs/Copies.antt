-- The outcome for the part files of copies.
use Rattle.std.specs.Prelude.{◌≡◌, ◌<◌, ◌≤◌, ◌⊎◌, ℕ, List, Option, None, Some, length, slice_index_or}
use Rattle.tfs_files.specs.FolderFacts.{remove_part, sync_names, HasFailed, IsNamed, IsDurable, IsRemoved}
use Rattle.tfs_files.specs.Naming.{IsUnnamedCopy}
use Rattle.tfs_files.specs.declared.naming.DurableJournal.{DurableJournal}
use Rattle.tfs_files.specs.declared.fault.CommandEnd.{CommandEnd}
use Rattle.tfs_files.specs.declared.fault.FaultPlace.TheVariants.{Journal}

-- The outcome for a part file: it is named durably if its number is at most the newest one, and
-- removed otherwise.
pub record IsNamedOrRemoved (folder : List ℕ) (newest number : ℕ) : Type 0 where
  pub named : number ≤ newest → IsNamed folder number number
  pub durable : number ≤ newest → IsDurable folder number
  pub removed : newest < number → IsRemoved folder number

-- The first `count` part files have their outcome.
abbrev pub AreNamed : List ℕ → List ℕ → ℕ → ℕ → Type 0
AreNamed folder parts newest count = (k : ℕ) → k < count → IsNamedOrRemoved folder newest (slice_index_or parts k 0)

-- The last one of the first `count` part files that is named, or None.
abbrev pub IsLastNamed : List ℕ → List ℕ → ℕ → ℕ → Option DurableJournal → Type 0
IsLastNamed folder parts newest count None = (k : ℕ) → k < count → newest < slice_index_or parts k 0
IsLastNamed folder parts newest count (Some journal) = (at : ℕ) × (at < count) × (slice_index_or parts at 0 ≡ journal.number)
    × (journal.number ≤ newest) × (journal.folder.now ≡ folder) × ((k : ℕ) → at < k → k < count → newest < slice_index_or parts k 0)

-- Why a part file has no outcome: it wasn't renamed, its name wasn't synced, or it wasn't removed.
abbrev pub FailsToName : List ℕ → ℕ → ℕ → Type 0
FailsToName folder newest number = ((number ≤ newest) × (IsUnnamedCopy folder number ⊎ (IsNamed folder number number × HasFailed folder sync_names)))
    ⊎ ((newest < number) × HasFailed folder (remove_part number))

-- One of the part files couldn't be named, or removed. Those before it have their outcome.
pub record StopsNaming (folder parts : List ℕ) (newest : ℕ) (end : CommandEnd) : Type 0 where
  pub count : ℕ
  pub among : count < length parts
  pub before : AreNamed folder parts newest count
  pub failed : FailsToName folder newest (slice_index_or parts count 0)
  pub at : end.place ≡ Journal (slice_index_or parts count 0)
