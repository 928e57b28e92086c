-- What chains are of: a state and the numbers of its changed instances.
use Rattle.std.specs.Prelude.{ℕ, List}
use Rattle.tfs_state.specs.Document.{Document}

-- A state and the numbers of its changed instances.
pub record Chained : Type 0 where
  pub document : Document
  pub starts : List ℕ
