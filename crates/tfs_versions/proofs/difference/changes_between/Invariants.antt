-- The changes to the old instances so far, then the added ones among the new instances so far.
use Rattle.std.proofs.Common.{◌≡◌, ◌++◌, take}
use Rattle.std.specs.List.{flat_map}
use Rattle.tfs_versions.specs.Diff.{change_in, added_to}
use Rattle.tfs_versions.proofs.difference.changes_between.Given as goal

abbrev pub invariant-loop-instance : goal.invariant-loop-instance
invariant-loop-instance l = l.changes.items ≡ flat_map (change_in l.new) (take l.instance-index l.old)

abbrev pub invariant-loop-added : goal.invariant-loop-added
invariant-loop-added l = l.changes.items ≡ flat_map (change_in l.new) l.old ++ flat_map (added_to l.old) (take l.added-index l.new)
