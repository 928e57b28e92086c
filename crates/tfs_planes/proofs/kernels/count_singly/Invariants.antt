-- The words before the current one are counted.
use Rattle.std.proofs.Common.{◌≡◌, sum_by, take, count_ones}
use Rattle.tfs_planes.proofs.kernels.count_singly.Given as goal

abbrev pub invariant-loop-word : goal.invariant-loop-word
invariant-loop-word l = l.count ≡ sum_by count_ones (take l.word-index l.words)
