-- The count has the changes of the workers so far.
use Rattle.std.proofs.Common.{◌≡◌, ◌+◌, sum_by, take}
use Rattle.tfs_runs.proofs.tally.Tally.with.Given as goal

abbrev pub invariant-loop-one : goal.invariant-loop-one
invariant-loop-one g l = l.tally.count ≡ l.self.count + sum_by (λ one. one.accepted) (take l.one-index l.served)
