-- The numbers in a member are valid.
use Rattle.std.proofs.Common.{sym, subst}
use Rattle.json.specs.Tree.{HasNumbers}
use Rattle.json.specs.Value.{value_view}
use Rattle.tfs_versions.proofs.instances.attributes_from.Goals as goal

pub push_attribute-requires : goal.push_attribute-requires
push_attribute-requires c =
    subst (λ m. HasNumbers (value_view m.1)) (sym c.member-item.is) (c.requires c.loop-member.member-index _ c.loop-member-test.true)
