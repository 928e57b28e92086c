-- The pairs so far are those of the instances so far.
use Rattle.std.proofs.Common.{◌≡◌, ◌<◌, All, take, length}
use Rattle.std.specs.List.{flat_map}
use Rattle.tfs_versions.specs.Picture.{pairs_from}
use Rattle.tfs_versions.proofs.dot.pairs_among.Given as goal

abbrev pub invariant-loop-u : goal.invariant-loop-u
invariant-loop-u l = record {
  value : l.pairs.items ≡ flat_map (λ u. pairs_from l.doc u l.among) (take l.u-index l.among);
  within : All (λ p. (p.0 < length l.doc.instances) × (p.1 < length l.doc.instances)) l.pairs.items;
}
