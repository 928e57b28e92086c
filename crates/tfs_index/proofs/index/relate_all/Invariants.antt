-- The instances with a number before the current one are related.
use Rattle.std.proofs.Common.{◌≡◌, ℕ, ◌||◌, ◌&&◌, ◌==◌, take}
use Rattle.std.specs.FinSet as set
use Rattle.std.specs.List.{list_any}
use Rattle.tfs_index.specs.Links.{has_number}
use Rattle.tfs_index.proofs.index.relate_all.Given as goal

abbrev pub invariant-loop-number : goal.invariant-loop-number
invariant-loop-number l = record {
  size : l.plane.size ≡ l.initial.plane.size;
  pairs : (v w : ℕ) → set.contains l.plane.pairs (v, w) ≡ (set.contains l.initial.plane.pairs (v, w)
      || (w == l.u && list_any (λ k. has_number l.links k v) (take l.number-index l.numbers)));
}
