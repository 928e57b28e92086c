-- The list has the indexes so far of changes with the effect.
use Rattle.std.proofs.Common.{◌≡◌, filter}
use Rattle.std.specs.List.{range_with_len}
use Rattle.tfs_plan.specs.Effects.{has_effect_at}
use Rattle.tfs_plan.proofs.effect.changes_with.Given as goal

abbrev pub invariant-loop-i : goal.invariant-loop-i
invariant-loop-i l = l.places.items ≡ filter (has_effect_at l.effect l.changes) (range_with_len 0 l.i)
