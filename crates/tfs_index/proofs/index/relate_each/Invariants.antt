-- The instances with the number, from the place on, are related.
use Rattle.std.proofs.Common.{◌≡◌, ℕ, ◌+◌, ◌≤◌, ◌||◌, ◌&&◌, ◌==◌, true, length, leb}
use Rattle.std.specs.FinSet as set
use Rattle.tfs_index.specs.Links.{has_number}
use Rattle.tfs_index.proofs.index.relate_each.Given as goal

abbrev pub invariant-loop-place : goal.invariant-loop-place
invariant-loop-place l = record {
  size : l.plane.size ≡ l.initial.plane.size;
  within : l.place ≤ length l.links;
  here : (v : ℕ) → l.place ≡ v + 1 → has_number l.links l.number v ≡ true;
  pairs : (v w : ℕ) → set.contains l.plane.pairs (v, w)
      ≡ (set.contains l.initial.plane.pairs (v, w) || (w == l.u && (leb l.place v && has_number l.links l.number v)));
}

abbrev pub decreases-loop-place : goal.decreases-loop-place
decreases-loop-place l = l.place
