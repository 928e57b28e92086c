-- The differences of the old attributes so far, then the added ones among the new ones so far.
use Rattle.std.proofs.Common.{◌≡◌, ◌++◌, take}
use Rattle.std.specs.List.{flat_map}
use Rattle.tfs_versions.specs.Diff.{difference_from, addition_to}
use Rattle.tfs_versions.proofs.difference.differences.Given as goal

abbrev pub invariant-loop-attribute : goal.invariant-loop-attribute
invariant-loop-attribute l = l.found.items ≡ flat_map (difference_from l.new) (take l.attribute-index l.old)

abbrev pub invariant-loop-added : goal.invariant-loop-added
invariant-loop-added l = l.found.items ≡ flat_map (difference_from l.new) l.old ++ flat_map (addition_to l.old) (take l.added-index l.new)
