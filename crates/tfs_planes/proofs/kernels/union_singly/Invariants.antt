-- The words before the current one are combined.
use Rattle.std.proofs.Common.{◌≡◌, bit_or}
use Rattle.tfs_planes.proofs.KernelLemmas.{front}
use Rattle.tfs_planes.proofs.kernels.union_singly.Given as goal

abbrev pub invariant-loop-i : goal.invariant-loop-i
invariant-loop-i l = l.words ≡ front bit_or l.i l.initial.words l.others
