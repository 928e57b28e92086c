-- The plane keeps its size.
use Rattle.std.proofs.Common.{◌≡◌}
use Rattle.tfs_tests.proofs.planes.plane_of.Given as goal

abbrev pub invariant-loop-i : goal.invariant-loop-i
invariant-loop-i l = l.plane.size ≡ l.size
