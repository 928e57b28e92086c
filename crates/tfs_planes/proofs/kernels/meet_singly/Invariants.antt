-- The words before the current one are combined.
use Rattle.std.proofs.Common.{◌≡◌, bit_and}
use Rattle.tfs_planes.proofs.KernelLemmas.{front}
use Rattle.tfs_planes.proofs.kernels.meet_singly.Given as goal

abbrev pub invariant-loop-i : goal.invariant-loop-i
invariant-loop-i l = l.words ≡ front bit_and l.i l.initial.words l.others
