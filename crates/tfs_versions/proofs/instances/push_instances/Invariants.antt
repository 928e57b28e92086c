-- The instances of the objects so far.
use Rattle.std.proofs.Common.{◌≡◌, ◌++◌, length, take, map}
use Rattle.json.specs.Value.{value_view}
use Rattle.tfs_versions.specs.Diff.{instances_from}
use Rattle.tfs_versions.proofs.instances.push_instances.Given as goal

abbrev pub invariant-loop-object : goal.invariant-loop-object
invariant-loop-object l = l.instances.items
    ≡ l.initial.instances.items ++ instances_from l.doc (length l.initial.instances.items) (map value_view (take l.object-index l.objects))
