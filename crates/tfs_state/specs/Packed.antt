-- The relation between the rows that a document keeps, whose dependencies are in one list, and the
-- rows that were read.
use Rattle.std.specs.Prelude.{◌≡◌, ℕ, ◌≤◌, List, length, slice_range, string_bytes}
use Rattle.std.specs.List.{AllZip}
use Rattle.tfs_state.specs.declared.packed.Packed.{Packed}
use Rattle.tfs_state.specs.declared.packed.PackedRow.{PackedRow}
use Rattle.tfs_state.specs.declared.tables.Row.{Row}

-- The numbers of a row's dependencies, from the list of all dependencies.
abbrev pub dependencies_of : List ℕ → PackedRow → List ℕ
dependencies_of numbers row = slice_range numbers row.start row.end

-- The row's dependencies are within the list of all dependencies.
pub record IsWithin (numbers : List ℕ) (row : PackedRow) : Type 0 where
  pub order : row.start ≤ row.end
  pub bound : row.end ≤ length numbers

-- The packed row equals a row, with its dependencies in the list of all dependencies.
pub record IsPacked (numbers : List ℕ) (packed : PackedRow) (row : Row) : Type 0 where
  pub block : packed.block ≡ row.block
  pub tail : string_bytes packed.tail ≡ string_bytes row.tail
  pub within : IsWithin numbers packed
  pub dependencies : dependencies_of numbers packed ≡ row.dependencies.items

-- Each packed row equals the row at the same index.
abbrev pub ArePacked : Packed → List Row → Type 0
ArePacked packed rows = AllZip (IsPacked packed.numbers.items) packed.rows.items rows
