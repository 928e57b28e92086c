-- The list has the numbers before the current one.
use Rattle.std.proofs.Common.{◌≡◌, take}
use Rattle.tfs_index.proofs.index.config_numbers.Given as goal

abbrev pub invariant-loop-v : goal.invariant-loop-v
invariant-loop-v l = l.list.items ≡ take l.v l.numbers.configs
