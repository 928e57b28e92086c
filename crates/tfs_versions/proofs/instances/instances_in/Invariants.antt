-- The instances of the resources so far.
use Rattle.std.proofs.Common.{◌≡◌, take, map, codes}
use Rattle.std.specs.List.{flat_map}
use Rattle.json.specs.Value.{value_view}
use Rattle.tfs_versions.specs.Diff.{instances_from, list_at}
use Rattle.tfs_versions.proofs.instances.instances_in.Given as goal

abbrev pub invariant-loop-resource : goal.invariant-loop-resource
invariant-loop-resource l =
    l.instances.items ≡ instances_from l.doc 0 (flat_map (list_at (codes "instances")) (map value_view (take l.resource-index l.resources)))
