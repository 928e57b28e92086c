-- The result has those of the numbers so far that are numbers of instances.
use Rattle.std.proofs.Common.{◌≡◌, ◌<◌, All, take, filter, length, nat_lt}
use Rattle.tfs_versions.proofs.dot.within.Given as goal

abbrev pub invariant-loop-number : goal.invariant-loop-number
invariant-loop-number l = record {
  value : l.own.items ≡ filter (λ u. nat_lt u (length l.doc.instances)) (take l.number-index l.numbers);
  within : All (λ u. u < length l.doc.instances) l.own.items;
}
