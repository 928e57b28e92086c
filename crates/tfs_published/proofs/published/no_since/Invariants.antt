-- No place has a token so far.
use Rattle.std.proofs.Common.{◌≡◌, replicate, None}
use Rattle.tfs_published.proofs.published.no_since.Given as goal

abbrev pub invariant-loop-number : goal.invariant-loop-number
invariant-loop-number l = l.since.items ≡ replicate l._number None
