-- The pieces of a state.
use Rattle.std.specs.Prelude.{◌≡◌, ℕ, ◌<◌, List, length, slice_index_or}
use Rattle.std.specs.List.{flat_map}
use Rattle.tfs_store.specs.declared.pieces.PieceFault.{PieceFault}
use Rattle.tfs_store.specs.declared.pieces.PieceFault.TheVariants.{Gap, Short, Long, NoMemory}

-- A piece: its sequence number and its bytes.
pub record PieceValue : Type 0 where
  pub sequence : ℕ
  pub bytes : List ℕ

-- The sequence numbers are 0, 1, 2 and so on.
abbrev pub AreInOrder : List PieceValue → Type 0
AreInOrder pieces = (k : ℕ) (d : PieceValue) → k < length pieces → (slice_index_or pieces k d).sequence ≡ k

-- The bytes of pieces, one after another.
abbrev pub bytes_in : List PieceValue → List ℕ
bytes_in pieces = flat_map (λ (p : PieceValue). p.bytes) pieces

-- Why pieces do not make a state with this number of bytes.
abbrev pub IsCause : ℕ → List PieceValue → PieceFault → Type 0
IsCause count pieces Gap = ¬ AreInOrder pieces
IsCause count pieces Short = AreInOrder pieces × (length (bytes_in pieces) < count)
IsCause count pieces Long = AreInOrder pieces × (count < length (bytes_in pieces))
IsCause count pieces NoMemory = Unit {0}
