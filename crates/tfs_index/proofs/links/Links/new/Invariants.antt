-- The instances before the current one are linked.
use Rattle.std.proofs.Common.{◌≡◌, ℕ, ◌<◌, length, slice_get, slice_index, Some}
use Rattle.tfs_index.specs.Links.{IsBehindLast}
use Rattle.tfs_index.proofs.links.Links.new.Given as goal

abbrev pub invariant-loop-v : goal.invariant-loop-v
invariant-loop-v l = record {
  long : length l.befores.items ≡ l.v;
  lasts : (k : ℕ) → IsBehindLast l.number-items k l.v (slice_index l.lasts.items k);
  befores : (w n : ℕ) → w < l.v → slice_get l.number-items w ≡ Some n → IsBehindLast l.number-items n w (slice_index l.befores.items w);
}
