-- Rows and moves of the head, as contracts see them.
use Rattle.std.specs.Prelude.{ℕ, List, Option}
use Rattle.tfs_store.specs.declared.head.Head.{Head}
use Rattle.tfs_store.specs.declared.place.Place.{Place}

-- The row of a workspace.
pub record RowValue : Type 0 where
  pub name : List ℕ
  pub position : ℕ
  pub holder : Option (List ℕ)
  pub state : Option Place

-- A move of the head: if the head is `from`, it becomes `to`, and these rows are put.
pub record MoveValue : Type 0 where
  pub from : Option Head
  pub to : Head
  pub rows : List RowValue
