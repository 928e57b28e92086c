-- The row has taken in the rows of the block whose bits no longer remain in `bits`.
use Rattle.std.proofs.Common.{◌≡◌, ℕ, ◌<◌}
use Rattle.std.specs.Int.{bit_at}
use Rattle.tfs_planes.specs.Rounds.{IsClosedBlock}
use Rattle.tfs_planes.proofs.TakeLemmas.{TookIn}
use Rattle.tfs_planes.proofs.closure.take_in.Given as goal

abbrev pub invariant-loop-bits : goal.invariant-loop-bits
invariant-loop-bits l = record {
  within : (m : ℕ) → bit_at l.bits m ≡ 1 → m < l.width;
  took : IsClosedBlock l.stride l.block l.width l.first → TookIn l.stride l.initial.row l.row l.block l.width l.first l.bits;
}

abbrev pub decreases-loop-bits : goal.decreases-loop-bits
decreases-loop-bits l = l.bits
