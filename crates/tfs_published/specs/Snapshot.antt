-- What a session reads in a copy.
use Rattle.std.specs.Prelude.{◌≡◌, ℕ, List, [], get_or, slice_get, Option, Some, None}
use mathlib.Core.List.{IsPrefix}
use Rattle.logbook.specs.Pages.{Book}
use Rattle.tfs_rules.specs.History.{state_of}
use Rattle.tfs_records.specs.Journal.{Journal, acts_of, names_of}
use Rattle.tfs_published.specs.Change.{journal_after}
use Rattle.tfs_published.specs.Lookup.{IsLookup}
use Rattle.tfs_published.specs.Point.{IsPoint}
use Rattle.tfs_published.specs.Published.{ArePlacesOf}
use Rattle.tfs_published.specs.Since.{IsDue}
use Rattle.tfs_published.specs.Token.{TokenValue}
use Rattle.tfs_published.specs.declared.snapshot.Snapshot.{Snapshot}
use Rattle.tfs_published.specs.declared.view.CopyView.{CopyView}

-- The number of a name in a journal; a name without a number has no acts there.
abbrev pub IsNumber : Journal → List ℕ → Option ℕ → Type 0
IsNumber j name None = acts_of name j ≡ []
IsNumber j name (Some number) = slice_get (names_of j) number ≡ Some name

-- The token at a number, if there is one.
abbrev pub since_at : List (Option TokenValue) → Option ℕ → Option TokenValue
since_at since None = None
since_at since (Some number) = get_or since number None

-- What is read of a name in a copy that has an earlier token's changes as a prefix: what the copy
-- has of the name, and the token up to which it is read.
pub record IsSnapshot (copy : CopyView) (earlier : TokenValue) (name : List ℕ) (synced : ℕ) (snapshot : Snapshot) : Type 0 where
  pub begins : IsPrefix earlier.changes copy.token.changes
  pub lookup : (j : Journal) → ArePlacesOf j copy.places → IsLookup snapshot.lookup (state_of (acts_of name j))
  pub number : Option ℕ
  pub numbered : (j : Journal) → ArePlacesOf j copy.places → IsNumber j name number
  pub due : IsDue copy.token (since_at copy.since number) earlier synced snapshot.token

-- What is read of a name over the journal after the changes of one of a table's tokens, which have
-- an earlier token's changes as a prefix.
pub record IsSeen (book : Book) (opening : Journal) (earlier : TokenValue) (name : List ℕ) (snapshot : Snapshot) : Type 0 where
  pub point : IsPoint book opening snapshot.token
  pub begins : IsPrefix earlier.changes snapshot.token.changes
  pub lookup : IsLookup snapshot.lookup (state_of (acts_of name (journal_after opening snapshot.token.changes)))
