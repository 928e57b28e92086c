-- The instances of one more resource.
use Rattle.std.proofs.Common.{◌∙◌, [], codes, map, take, sym, ap}
use Rattle.std.specs.List.{flat_map}
use Rattle.std.proofs.lemmas.List.{flat_map_more}
use Rattle.json.specs.Value.{value_view}
use Rattle.tfs_versions.specs.Diff.{instances_from, list_at}
use Rattle.tfs_versions.proofs.DiffLemmas.{instances_of_more, map_more}
use Rattle.tfs_versions.proofs.instances.instances_in.Goals as goal

pub loop-resource-preserved : goal.loop-resource-preserved
loop-resource-preserved c =
    let d = c.args.doc.now in
    let resources = c.list_at-resources.result.now in
    let i = c.loop-resource.resource-index in
    let resource = c.resource-item.result in
    let front = map value_view (take i resources) in
    let objects = list_at (codes "instances") in
    c.in_ok-push_instances.ensures
    ∙ instances_of_more d c.loop-resource.instances.items (flat_map objects front) (objects (value_view resource)) c.loop-resource.invariant
    ∙ ap (instances_from d 0) (flat_map_more objects [] front (value_view resource)
    ∙ ap (flat_map objects) (sym (map_more value_view resources i resource c.loop-resource-test.true c.resource-item.is)))
