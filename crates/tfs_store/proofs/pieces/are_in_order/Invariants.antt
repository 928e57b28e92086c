-- The pieces so far are in order.
use Rattle.std.proofs.Common.{◌≡◌, ℕ, ◌<◌}
use Rattle.std.specs.Prelude.{slice_index_or}
use Rattle.tfs_store.specs.Pieces.{PieceValue}
use Rattle.tfs_store.proofs.pieces.are_in_order.Given as goal

abbrev pub invariant-loop-piece : goal.invariant-loop-piece
invariant-loop-piece l = (l.next ≡ l.piece-index)
    × ((k : ℕ) (d : PieceValue) → k < l.piece-index → (slice_index_or l.pieces k d).sequence ≡ k)
