-- The numbers in a member are valid.
use Rattle.json.specs.Value.{value_view}
use Rattle.json.proofs.Numbered.{HasNumbers-get}
use Rattle.tfs_versions.proofs.instances.list_at.Goals as goal

pub list_of-requires : goal.list_of-requires
list_of-requires c =
    HasNumbers-get c.args.name.now (value_view c.args.value.now) (value_view c.in-Some.member.now) c.requires c.in-Some.ensures
