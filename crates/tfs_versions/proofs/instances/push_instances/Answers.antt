-- One more instance.
use Rattle.std.proofs.Common.{◌++◌, ◌∙◌, map, take, length, sym, ap}
use Rattle.json.specs.Value.{value_view}
use Rattle.tfs_versions.specs.Diff.{instances_from}
use Rattle.tfs_versions.proofs.DiffLemmas.{instances_more, map_more}
use Rattle.tfs_versions.proofs.instances.push_instances.Goals as goal

pub loop-object-preserved : goal.loop-object-preserved
loop-object-preserved c =
    let d = c.args.doc.now in
    let before = c.args.instances.now.items in
    let objects = c.list_at-objects.result.now in
    let i = c.loop-object.object-index in
    let object = c.object-item.result in
    c.in_ok-push_instance.ensures
    ∙ instances_more d before c.loop-object.instances.items (map value_view (take i objects)) (value_view object) c.loop-object.invariant
    ∙ ap (λ l. before ++ instances_from d (length before) l) (sym (map_more value_view objects i object c.loop-object-test.true c.object-item.is))
