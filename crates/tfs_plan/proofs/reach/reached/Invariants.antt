-- The list has those of the instances so far that are reached and not among the others.
use Rattle.std.proofs.Common.{◌≡◌, filter}
use Rattle.std.specs.List.{range_with_len}
use Rattle.tfs_plan.specs.Reached.{is_beyond}
use Rattle.tfs_plan.proofs.reach.reached.Given as goal

abbrev pub invariant-loop-u : goal.invariant-loop-u
invariant-loop-u l = l.numbers.items ≡ filter (is_beyond l.version l.starts l.others) (range_with_len 0 l.u)
