-- What a reader has seen.
use Rattle.std.specs.Prelude.{ℕ, List}
use Rattle.tfs_records.specs.Journal.{Journal}

-- What callers see: the journal that the reader has seen, and the sessions that made its changes
-- after the opening journal.
pub record ReaderView : Type 0 where
  pub journal : Journal
  pub makers : List ℕ
