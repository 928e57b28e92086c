-- The placed rows are closed, and the others lie between what they were and their closure.
use Rattle.std.proofs.Common.{ℕ, ◌<◌, IsTrue}
use Rattle.tfs_planes.specs.Plane.{cell_at}
use Rattle.tfs_planes.specs.Row.{bit_at_word}
use Rattle.tfs_planes.specs.Targets.{IsPlacing}
use Rattle.tfs_planes.proofs.placing.close_in_order.Given as goal

abbrev pub invariant-loop-k : goal.invariant-loop-k
invariant-loop-k g l = record {
  within : (t : ℕ) → IsTrue (bit_at_word l.placed t) → t < l.count;
  placing : IsPlacing l.stride l.words l.placed (cell_at l.stride l.initial.words);
}
