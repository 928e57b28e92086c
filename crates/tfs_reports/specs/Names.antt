-- The names of the listed workspaces.
use Rattle.std.specs.Prelude.{ℕ, List, filter, Bool, not, ◌||◌, is_some}
use Rattle.std.specs.List.Sorted.{IsPermutation}
use Rattle.tfs_rules.specs.History.{holder_of}
use Rattle.tfs_records.specs.Journal.{Journal, acts_of, names_of}

-- A name is listed: any name, or only a locked one.
abbrev pub is_listed : Journal → Bool → List ℕ → Bool
is_listed j held_only name = not held_only || is_some (holder_of (acts_of name j))

-- The listed names, each once, in any order.
abbrev pub AreListed : Journal → Bool → List (List ℕ) → Type 0
AreListed j held_only names = IsPermutation (filter (is_listed j held_only) (names_of j)) names
