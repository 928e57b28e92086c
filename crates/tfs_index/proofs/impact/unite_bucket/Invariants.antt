-- The row has what the named instances of the bucket from the place on reach.
use Rattle.std.proofs.Common.{◌≡◌, ℕ, ◌+◌, ◌≤◌, ◌||◌, ◌&&◌, true, length, leb}
use Rattle.std.specs.FinSet as set
use Rattle.tfs_index.specs.Impact.{is_reached_from}
use Rattle.tfs_index.specs.Links.{has_number}
use Rattle.tfs_index.proofs.impact.unite_bucket.Given as goal

abbrev pub invariant-loop-place : goal.invariant-loop-place
invariant-loop-place l = record {
  size : l.row.size ≡ l.initial.row.size;
  within : l.place ≤ length l.links;
  here : (v : ℕ) → l.place ≡ v + 1 → has_number l.links l.bucket v ≡ true;
  members : (u : ℕ) → set.contains l.row.members u ≡ (set.contains l.initial.row.members u
      || is_reached_from l.doc l.text (λ v. leb l.place v && has_number l.links l.bucket v) u);
}

abbrev pub decreases-loop-place : goal.decreases-loop-place
decreases-loop-place l = l.place
