-- The values before the current one have no `true`.
use Rattle.std.proofs.Common.{◌≡◌, drop}
use Rattle.serde_json.specs.View.{items_view, members_view}
use Rattle.tfs_plan.specs.Ignored.{has_true_item, has_true_member}
use Rattle.tfs_plan.proofs.ignored.+has_true.Given as goal

abbrev pub invariant-has_true_item-loop-item : goal.invariant-has_true_item-loop-item
invariant-has_true_item-loop-item l = has_true_item (items_view l.item-items) ≡ has_true_item (items_view (drop l.item-index l.item-items))

abbrev pub invariant-has_true_member-loop-member : goal.invariant-has_true_member-loop-member
invariant-has_true_member-loop-member l = has_true_member (members_view l.members.entries) ≡ has_true_member (members_view l.member-iterator)
