-- Prefixes of a history.
use Rattle.std.specs.Prelude.{ℕ, ◌+◌, min, List, [], ◌∷◌, ◌++◌, length}
use Rattle.logbook.specs.Pages.{Book}
use Rattle.tfs_records.specs.Format.{record_text}
use Rattle.tfs_published.specs.Change.{ChangeValue}

-- A prefix of the history of a book: its first changes, and the position and the mark of the
-- journal after them.
pub record TokenValue : Type 0 where
  pub book : Book
  pub changes : List ChangeValue
  pub position : ℕ
  pub mark : ℕ

-- The prefix with one more change.
abbrev pub token_with : TokenValue → ChangeValue → TokenValue
token_with token change = record {
  book = token.book;
  changes = token.changes ++ change ∷ [];
  position = token.position + 1;
  mark = min (token.mark + length (record_text change.entry)) 18446744073709551615;
}
