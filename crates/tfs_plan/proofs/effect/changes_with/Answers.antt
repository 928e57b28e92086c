-- The index of the next change is appended if it has the effect.
use Rattle.tfs_plan.specs.Effects.{has_effect_at}
use Rattle.tfs_plan.proofs.FilterLemmas.{filter_step}
use Rattle.tfs_plan.proofs.effect.changes_with.Goals as goal

pub loop-i-preserved : goal.loop-i-preserved
loop-i-preserved c = filter_step (has_effect_at c.args.effect c.args.changes.now) c.loop-i.i c.loop-i.places.items
    c.push_if.new.numbers.items c.has_effect_at.result c.has_effect_at.ensures c.in_ok-push_if.ensures c.loop-i.invariant
