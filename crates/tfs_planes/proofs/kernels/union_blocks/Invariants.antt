-- The blocks before the current one are combined.
use Rattle.std.proofs.Common.{◌≡◌, ◌*◌, bit_or}
use Rattle.tfs_planes.proofs.KernelLemmas.{front}
use Rattle.tfs_planes.proofs.kernels.union_blocks.Given as goal

abbrev pub invariant-loop-block : goal.invariant-loop-block
invariant-loop-block l = l.words ≡ front bit_or (l.block * 8) l.initial.words l.others
