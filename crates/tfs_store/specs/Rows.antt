-- The rows of a store as its pairs have them.
use Rattle.std.specs.Prelude.{◌≡◌, ℕ, List}
use Rattle.tfs_store.specs.Values.{RowValue}
use Rattle.tfs_store.specs.Texts.{row_key, row_text}

-- A key of the store and its value.
pub record PairValue : Type 0 where
  pub key : List ℕ
  pub value : List ℕ

-- A pair has the key and the value of a row.
pub record SpellsRow (prefix : List ℕ) (pair : PairValue) (row : RowValue) : Type 0 where
  pub key : pair.key ≡ row_key prefix row.name
  pub value : pair.value ≡ row_text row
