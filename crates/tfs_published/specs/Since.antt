-- How long a name has been unchanged.
use Rattle.std.specs.Prelude.{◌≡◌, ◌⊎◌, ℕ, ◌<◌, ◌≤◌, List, [], length, Option, Some, None}
use mathlib.Core.List.{IsPrefix}
use Rattle.logbook.specs.Pages.{Book}
use Rattle.tfs_records.specs.Journal.{Journal, acts_of}
use Rattle.tfs_published.specs.Change.{ChangeValue, journal_after}
use Rattle.tfs_published.specs.Point.{IsPoint}
use Rattle.tfs_published.specs.Token.{TokenValue}

-- The name has had no acts between earlier and later changes.
pub record IsUnchanged (opening : Journal) (earlier later : List ChangeValue) (name : List ℕ) : Type 0 where
  pub begins : IsPrefix earlier later
  pub same : acts_of name (journal_after opening later) ≡ acts_of name (journal_after opening earlier)

-- Up to these changes the name has had no acts since a token of the table or, without a token,
-- since the opening journal.
abbrev pub IsSince : Book → Journal → List ChangeValue → List ℕ → Option TokenValue → Type 0
IsSince book opening changes name None = IsUnchanged opening [] changes name
IsSince book opening changes name (Some since) = IsPoint book opening since × IsUnchanged opening since.changes changes name

-- The later one of an earlier token and the token, if there is one, since which a name is
-- unchanged.
abbrev pub IsLater : Option TokenValue → TokenValue → TokenValue → Type 0
IsLater None earlier token = token ≡ earlier
IsLater (Some since) earlier token =
    ((length since.changes ≤ length earlier.changes) × (token ≡ earlier)) ⊎ ((length earlier.changes < length since.changes) × (token ≡ since))

-- The token that a session has seen after it read a name, if it had seen an earlier one: the last
-- token if its mark is synced; otherwise the first one that has all changes of the name.
abbrev pub IsDue : TokenValue → Option TokenValue → TokenValue → ℕ → TokenValue → Type 0
IsDue last since earlier synced token = ((last.mark ≤ synced) × (token ≡ last)) ⊎ ((synced < last.mark) × IsLater since earlier token)
