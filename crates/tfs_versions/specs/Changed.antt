-- The last change of a workspace in a journal.
use Rattle.std.specs.Prelude.{◌≡◌, ◌≢◌, ◌+◌, ◌≤◌, ℕ, List, slice_get, Option, Some, None}
use Rattle.tfs_records.specs.Journal.{Journal, EntryValue}

-- No entry from an index on has this name.
abbrev pub NoneFrom : List ℕ → Journal → ℕ → Type 0
NoneFrom name j from = (k : ℕ) (e : EntryValue) → from ≤ k → slice_get j.entries k ≡ Some e
    → e.name ≢ name

-- The entry with an index is the last one of a name, and brings the journal to this position.
pub record IsLastEntry (name : List ℕ) (j : Journal) (index position : ℕ) : Type 0 where
  pub entry : EntryValue
  pub found : slice_get j.entries index ≡ Some entry
  pub own : entry.name ≡ name
  pub last : NoneFrom name j (index + 1)
  pub position_is : position ≡ j.base.position + (index + 1)

-- The position of the last entry of a name; none if the journal has no entry of it.
abbrev pub IsLastChange : List ℕ → Journal → Option ℕ → Type 0
IsLastChange name j None = NoneFrom name j 0
IsLastChange name j (Some position) = (index : ℕ) × IsLastEntry name j index position
