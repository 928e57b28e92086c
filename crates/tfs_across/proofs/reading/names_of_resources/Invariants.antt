-- The names that the resources so far read.
use Rattle.std.proofs.Common.{◌≡◌, take, map}
use Rattle.std.specs.List.{flat_map}
use Rattle.tfs_json.specs.Tree.{tree_view}
use Rattle.tfs_across.specs.Reads.{names_of_resource}
use Rattle.tfs_across.proofs.reading.names_of_resources.Given as goal

abbrev pub invariant-loop-resource : goal.invariant-loop-resource
invariant-loop-resource l =
    l.names.items ≡ flat_map names_of_resource (map tree_view (take l.resource-index l.resources))
