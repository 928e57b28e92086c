-- No instance of the bucket from the place on is named.
use Rattle.std.proofs.Common.{◌≡◌, ℕ, ◌+◌, ◌≤◌, true, false, length}
use Rattle.tfs_index.specs.Impact as impact
use Rattle.tfs_index.specs.Links.{has_number}
use Rattle.tfs_index.proofs.names.find.Given as goal

abbrev pub invariant-loop-place : goal.invariant-loop-place
invariant-loop-place l = record {
  within : l.place ≤ length l.links;
  here : (v : ℕ) → l.place ≡ v + 1 → has_number l.links l.bucket v ≡ true;
  none : (v : ℕ) → l.place ≤ v → has_number l.links l.bucket v ≡ true → impact.names l.doc l.text v ≡ false;
}

abbrev pub decreases-loop-place : goal.decreases-loop-place
decreases-loop-place l = l.place
