-- The changes in the history of a shared table.
use Rattle.std.specs.Prelude.{ℕ, List, ◌++◌, map, fold, Option, None}
use Rattle.tfs_state.specs.Document.{Document}
use Rattle.tfs_rules.specs.History.{state_of}
use Rattle.tfs_records.specs.Journal.{EntryValue, Journal, with_entry, acts_of}
use Rattle.tfs_table.specs.Ready.{ReadyValue}

-- An accepted change: the number of the session that made it, its entry, and the state that its
-- name has afterwards.
pub record ChangeValue : Type 0 where
  pub maker : ℕ
  pub entry : EntryValue
  pub state : Option Document

-- The change that a session makes of a ready one.
abbrev pub change_of : ℕ → ReadyValue → ChangeValue
change_of maker ready = record { maker = maker; entry = ready.entry; state = state_of (acts_of ready.entry.name (with_entry ready.journal ready.entry)) }

-- The entries of changes.
abbrev pub entries_of : List ChangeValue → List EntryValue
entries_of = map (λ change. change.entry)

-- The numbers of the sessions that made changes.
abbrev pub makers_of : List ChangeValue → List ℕ
makers_of = map (λ change. change.maker)

-- The journal after these changes.
abbrev pub journal_after : Journal → List ChangeValue → Journal
journal_after j changes = record { base = j.base; entries = j.entries ++ entries_of changes }

-- The state of the last of these changes; none if there are no changes.
abbrev pub state_told : List ChangeValue → Option Document
state_told = fold (λ before change. change.state) None
