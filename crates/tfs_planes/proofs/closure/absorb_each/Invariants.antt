-- The rows before the current one are done, and the rows from it on are unchanged.
use Rattle.std.proofs.Common.{◌≡◌, ℕ, ◌<◌, ◌≤◌}
use Rattle.tfs_planes.specs.Plane.{row_words, row_through}
use Rattle.tfs_planes.proofs.closure.absorb_each.Given as goal

abbrev pub invariant-loop-i : goal.invariant-loop-i
invariant-loop-i l = record {
  done : (j : ℕ) → j < l.i → row_words l.stride l.rows j ≡ row_through l.other l.column (row_words l.stride l.initial.rows j);
  rest : (j : ℕ) → l.i ≤ j → row_words l.stride l.rows j ≡ row_words l.stride l.initial.rows j;
}
