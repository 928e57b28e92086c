-- The pairs so far are those with the instances so far.
use Rattle.std.proofs.Common.{◌≡◌, ◌<◌, ◌++◌, All, take, length}
use Rattle.tfs_versions.specs.Picture.{pairs_from}
use Rattle.tfs_versions.proofs.dot.push_pairs.Given as goal

abbrev pub invariant-loop-v : goal.invariant-loop-v
invariant-loop-v l = record {
  value : l.pairs.items ≡ l.initial.pairs.items ++ pairs_from l.doc l.u (take l.v-index l.among);
  within : All (λ p. (p.0 < length l.doc.instances) × (p.1 < length l.doc.instances)) l.pairs.items;
}
