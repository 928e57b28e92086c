-- No instance of the bucket from the place on has the configuration address.
use Rattle.std.proofs.Common.{◌≡◌, ℕ, ◌+◌, ◌≤◌, true, length, Some}
use Rattle.tfs_state.specs.Dependency.{config_of}
use Rattle.tfs_index.specs.Links.{has_number}
use Rattle.tfs_index.proofs.names.find_config.Given as goal

abbrev pub invariant-loop-place : goal.invariant-loop-place
invariant-loop-place l = record {
  within : l.place ≤ length l.links;
  here : (v : ℕ) → l.place ≡ v + 1 → has_number l.links l.bucket v ≡ true;
  none : (v : ℕ) → l.place ≤ v → has_number l.links l.bucket v ≡ true → config_of l.doc v ≡ Some l.text → ⊥;
}

abbrev pub decreases-loop-place : goal.decreases-loop-place
decreases-loop-place l = l.place
