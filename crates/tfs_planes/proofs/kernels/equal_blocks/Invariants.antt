-- The blocks before the current one are equal.
use Rattle.std.proofs.Common.{◌≡◌, ◌*◌, take}
use Rattle.tfs_planes.proofs.kernels.equal_blocks.Given as goal

abbrev pub invariant-loop-block : goal.invariant-loop-block
invariant-loop-block l = take (l.block * 8) l.left ≡ take (l.block * 8) l.right
