-- The numbers in a member are valid.
use Rattle.std.proofs.Common.{codes}
use Rattle.json.specs.Value.{value_view}
use Rattle.json.proofs.Numbered.{HasNumbers-get}
use Rattle.tfs_versions.proofs.instances.attributes_of.Goals as goal

pub attributes_in-requires : goal.attributes_in-requires
attributes_in-requires c =
    HasNumbers-get (codes "attributes") (value_view c.args.object.now) (value_view c.in-Some.value.now) c.requires c.in-Some.ensures
