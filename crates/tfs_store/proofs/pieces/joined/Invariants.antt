-- The bytes of the pieces so far.
use Rattle.std.proofs.Common.{◌≡◌, take}
use Rattle.tfs_store.specs.Pieces.{bytes_in}
use Rattle.tfs_store.proofs.pieces.joined.Given as goal

abbrev pub invariant-loop-piece : goal.invariant-loop-piece
invariant-loop-piece l = l.state.items ≡ bytes_in (take l.piece-index l.pieces)
