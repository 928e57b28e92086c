-- The rows before the current one have taken in the block, and the rows from it on are unchanged.
use Rattle.std.proofs.Common.{◌≡◌, ◌↔◌, ℕ, ◌<◌, ◌≤◌, IsTrue}
use Rattle.tfs_planes.specs.Plane.{row_words, cell_at}
use Rattle.tfs_planes.specs.Rounds.{IsClosedBlock, TakesIn}
use Rattle.tfs_planes.proofs.closure.take_in_each.Given as goal

abbrev pub invariant-loop-i : goal.invariant-loop-i
invariant-loop-i l = record {
  done : IsClosedBlock l.stride l.block l.width l.first → (i j : ℕ) → i < l.i →
      IsTrue (cell_at l.stride l.rows i j) ↔ TakesIn l.stride (row_words l.stride l.initial.rows i) l.block l.width l.first j;
  rest : (i : ℕ) → l.i ≤ i → row_words l.stride l.rows i ≡ row_words l.stride l.initial.rows i;
}
