-- The workspaces that are read by those before the current one are related to them.
use Rattle.std.proofs.Common.{◌≡◌, ℕ, ◌&&◌, length, nat_lt}
use Rattle.std.specs.FinSet as set
use Rattle.tfs_across.specs.Across.{reads}
use Rattle.tfs_across.proofs.relating.relate.Given as goal

abbrev pub invariant-loop-i : goal.invariant-loop-i
invariant-loop-i l = record {
  size : l.plane.size ≡ length l.workspaces;
  pairs : (v w : ℕ) → set.contains l.plane.pairs (v, w) ≡ (nat_lt w l.i && reads l.workspaces w v);
}
