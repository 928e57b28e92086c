-- After k rounds the rows of the block represent the walks with inner numbers below first + k.
use Rattle.std.proofs.Common.{ℕ, ◌+◌, Bool}
use Rattle.tfs_planes.specs.Rounds.{BlockJoins}
use Rattle.tfs_planes.proofs.closure.close_block.Given as goal

abbrev pub invariant-loop-k : goal.invariant-loop-k
invariant-loop-k l =
    (related : ℕ → ℕ → Bool) → BlockJoins l.stride l.initial.block l.width l.first related l.first →
    BlockJoins l.stride l.block l.width l.first related (l.first + l.k)
