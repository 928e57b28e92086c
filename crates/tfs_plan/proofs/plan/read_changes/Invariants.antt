-- The values before the current one describe the changes so far.
use Rattle.std.proofs.Common.{map, take}
use Rattle.serde_json.specs.View.{view}
use Rattle.tfs_plan.specs.Plan.{AreChanges}
use Rattle.tfs_plan.proofs.plan.read_changes.Given as goal

abbrev pub invariant-loop-i : goal.invariant-loop-i
invariant-loop-i l = AreChanges (map (λ t. t.now) l.ignored) (map view (take l.i l.list)) l.changes.items
