-- The workspaces before the current one are related, if they have one of the names.
use Rattle.std.proofs.Common.{◌≡◌, ℕ, ◌||◌, ◌&&◌, ◌==◌, nat_lt}
use Rattle.std.specs.FinSet as set
use Rattle.tfs_across.specs.Across.{is_named}
use Rattle.tfs_across.proofs.relating.relate_reader.Given as goal

abbrev pub invariant-loop-j : goal.invariant-loop-j
invariant-loop-j l = record {
  size : l.plane.size ≡ l.initial.plane.size;
  pairs : (v w : ℕ) → set.contains l.plane.pairs (v, w)
      ≡ (set.contains l.initial.plane.pairs (v, w) || (w == l.i && (nat_lt v l.j && is_named l.workspaces l.names v)));
}
