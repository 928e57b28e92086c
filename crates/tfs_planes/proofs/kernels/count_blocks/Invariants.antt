-- The blocks before the current one are counted.
use Rattle.std.proofs.Common.{◌≡◌, ◌*◌, sum_by, take, count_ones}
use Rattle.tfs_planes.proofs.kernels.count_blocks.Given as goal

abbrev pub invariant-loop-block : goal.invariant-loop-block
invariant-loop-block l = l.count ≡ sum_by count_ones (take (l.block * 8) l.words)
