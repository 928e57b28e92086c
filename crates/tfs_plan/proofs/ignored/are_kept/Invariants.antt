-- The attributes before the current one are ignored, or the same on the other side.
use Rattle.std.proofs.Common.{◌≡◌, map}
use Rattle.serde_json.specs.View.{view, members_view}
use Rattle.tfs_plan.specs.Ignored.{all_others, has_same}
use Rattle.tfs_plan.proofs.ignored.are_kept.Given as goal

abbrev pub invariant-loop-name : goal.invariant-loop-name
invariant-loop-name l =
    all_others (has_same (view l.other)) (map (λ t. t.now) l.names) (members_view l.attributes.entries)
    ≡ all_others (has_same (view l.other)) (map (λ t. t.now) l.names) (members_view l.name-iterator)
