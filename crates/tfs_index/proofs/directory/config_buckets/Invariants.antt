-- The instances before the current one have their buckets.
use Rattle.std.proofs.Common.{◌≡◌, length}
use Rattle.tfs_state.specs.Dependency.{config_of}
use Rattle.tfs_index.specs.Directory.{AreBuckets}
use Rattle.tfs_index.proofs.directory.config_buckets.Given as goal

abbrev pub invariant-loop-v : goal.invariant-loop-v
invariant-loop-v l = record { long : length l.numbers.items ≡ l.v; buckets : AreBuckets l.mask (config_of l.doc) l.numbers.items }
