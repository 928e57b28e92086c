-- The publisher: what the lock protects in addition to the table.
use Rattle.std.specs.Prelude.{◌≡◌, ℕ, List, [], Option, Some, None, IfSome}
use Rattle.logbook.specs.Pages.{Book}
use Rattle.tfs_records.specs.Journal.{Journal}
use Rattle.tfs_published.specs.Token.{TokenValue}
use Rattle.tfs_published.specs.Published.{IsPublished, StandsFor, Queues}
use Rattle.tfs_published.specs.declared.view.CopyView.{CopyView}
use Rattle.tfs_published.specs.declared.operation.Operation.{Operation}

-- What callers see: the published journal, and the sessions that made its changes after the opening
-- journal; the same for what is published next; and the copy that readers enter.
pub record PublisherView : Type 0 where
  pub journal : Journal
  pub makers : List ℕ
  pub next : Option Journal
  pub next_makers : Option (List ℕ)
  pub shown : Option CopyView

-- The copy that readers enter represents the published journal.
pub record Shows (publisher : PublisherView) : Type 0 where
  pub copy : CopyView
  pub shown : publisher.shown ≡ Some copy
  pub published : IsPublished copy publisher.journal

-- The queued operations: none, or the update that leads to the next token.
abbrev pub IsQueue : Journal → CopyView → Option TokenValue → List Operation → Type 0
IsQueue opening copy None queued = queued ≡ []
IsQueue opening copy (Some next) queued = (queues : Queues opening copy queued) × (queues.update.token ≡ next)

-- The invariant of a publisher: the copy that readers enter has the newest token, and represents
-- the journal after its changes.
pub record IsPublisher (book : Book) (opening : Journal) (newest : TokenValue) (next : Option TokenValue) (shown : Option CopyView)
    (queued : Option (List Operation)) : Type 0 where
  pub copy : CopyView
  pub shows : shown ≡ Some copy
  pub newest_is : copy.token ≡ newest
  pub stands : StandsFor book opening copy
  pub queue : IfSome queued (IsQueue opening copy next)
