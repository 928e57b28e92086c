-- Numbers that represent configuration addresses and dependencies.
use Rattle.std.specs.Prelude.{◌≡◌, ℕ, ◌<◌, ◌↔◌, ◌==◌, List, map, length, slice_get, Some, option_map, IsTrue}
use Rattle.std.specs.Option.{unwrap_or}
use Rattle.std.specs.List.{list_any}
use Rattle.tfs_state.specs.Dependency.{DependsOn}
use Rattle.tfs_state.specs.Document.{Document}
use Rattle.tfs_state.specs.declared.tables.Block.{Block}
use Rattle.tfs_state.specs.declared.packed.PackedRow.{PackedRow}
use Rattle.tfs_state.specs.Packed.{IsWithin, dependencies_of}

-- A number for each instance's configuration address, and a list of numbers for each instance's
-- dependencies.
pub record NumberTable : Type 0 where
  pub configs : List ℕ
  pub dependencies : List (List ℕ)

-- The table belongs to a document: an instance depends on another if and only if the other's number
-- is among its numbers.
pub record IsNumbering (d : Document) (table : NumberTable) : Type 0 where
  pub configs : length table.configs ≡ length d.instances
  pub dependencies : length table.dependencies ≡ length d.instances
  pub related : (u v : ℕ) (numbers : List ℕ) (number : ℕ) → slice_get table.dependencies u ≡ Some numbers
      → slice_get table.configs v ≡ Some number → IsTrue (list_any (λ n. n == number) numbers) ↔ DependsOn d u v

-- ---- In memory.

-- The number of a row's block.
abbrev pub row_number : List Block → PackedRow → ℕ
row_number blocks row = unwrap_or (option_map (λ (block : Block). block.number) (slice_get blocks row.block)) 0

-- The number table of rows whose dependencies are in one list.
abbrev pub table_of : List Block → List PackedRow → List ℕ → NumberTable
table_of blocks rows numbers = record { configs = map (row_number blocks) rows; dependencies = map (dependencies_of numbers) rows }

-- Each row has its block, and its dependencies are within the list of all dependencies.
abbrev pub Fits : List Block → List PackedRow → List ℕ → Type 0
Fits blocks rows numbers = (i : ℕ) (row : PackedRow) → slice_get rows i ≡ Some row → (row.block < length blocks) × IsWithin numbers row
