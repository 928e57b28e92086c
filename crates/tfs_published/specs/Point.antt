-- The tokens of a shared table.
use Rattle.std.specs.Prelude.{◌≡◌, ◌≤◌}
use Rattle.logbook.specs.Pages.{Book}
use Rattle.tfs_records.specs.Journal.{Journal, position_of}
use Rattle.tfs_table.specs.Lawful.{IsLawful}
use Rattle.tfs_table.specs.Mark.{mark_of}
use Rattle.tfs_published.specs.Change.{journal_after}
use Rattle.tfs_published.specs.Token.{TokenValue}

-- A token belongs to the book of a table. The journal after its changes is lawful and has the
-- token's position; its mark isn't greater than the token's.
pub record IsPoint (book : Book) (opening : Journal) (token : TokenValue) : Type 0 where
  pub same_book : token.book ≡ book
  pub position : token.position ≡ position_of (journal_after opening token.changes)
  pub mark : mark_of (journal_after opening token.changes) ≤ token.mark
  pub lawful : IsLawful (journal_after opening token.changes)
