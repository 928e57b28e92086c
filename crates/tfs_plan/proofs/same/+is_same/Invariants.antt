-- What is before the current elements is the same.
use Rattle.std.proofs.Common.{◌≡◌, drop}
use Rattle.serde_json.specs.View.{items_view, members_view}
use Rattle.tfs_plan.specs.Same.{are_same_items, are_same_members}
use Rattle.tfs_plan.proofs.same.+is_same.Given as goal

abbrev pub invariant-are_same_items-loop-item : goal.invariant-are_same_items-loop-item
invariant-are_same_items-loop-item l =
    are_same_items (items_view l.one.items) (items_view l.other.items) ≡ are_same_items (items_view (drop l.item-index l.item-items)) (items_view l.rest.rest.now)

abbrev pub invariant-are_same_members-loop-name : goal.invariant-are_same_members-loop-name
invariant-are_same_members-loop-name l =
    are_same_members (members_view l.one.entries) (members_view l.other.entries) ≡ are_same_members (members_view l.name-iterator) (members_view l.rest)
