-- The attributes before the current one are ignored, or have no `true`.
use Rattle.std.proofs.Common.{◌≡◌, map, not}
use Rattle.serde_json.specs.View.{members_view}
use Rattle.tfs_plan.specs.Ignored.{all_others, has_true}
use Rattle.tfs_plan.proofs.ignored.have_no_true.Given as goal

abbrev pub invariant-loop-name : goal.invariant-loop-name
invariant-loop-name l =
    all_others (λ name value. not (has_true value)) (map (λ t. t.now) l.names) (members_view l.unknown.entries)
    ≡ all_others (λ name value. not (has_true value)) (map (λ t. t.now) l.names) (members_view l.name-iterator)
