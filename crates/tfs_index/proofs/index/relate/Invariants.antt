-- The instances before the current one are related to those on which they depend.
use Rattle.std.proofs.Common.{◌≡◌, ℕ, ◌&&◌, nat_lt, length}
use Rattle.std.specs.FinSet as set
use Rattle.tfs_index.specs.Reach.{depends_on}
use Rattle.tfs_index.proofs.index.relate.Given as goal

abbrev pub invariant-loop-u : goal.invariant-loop-u
invariant-loop-u l = record {
  size : l.plane.size ≡ length l.fn.doc.instances;
  pairs : (v w : ℕ) → set.contains l.plane.pairs (v, w) ≡ (nat_lt w l.u && depends_on l.fn.doc w v);
}
