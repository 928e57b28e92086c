-- No name before the current one is the name.
use Rattle.std.proofs.Common.{◌≡◌, map, drop}
use Rattle.tfs_plan.specs.Ignored.{is_named}
use Rattle.tfs_plan.proofs.ignored.is_named.Given as goal

abbrev pub invariant-loop-own : goal.invariant-loop-own
invariant-loop-own l = is_named (map (λ t. t.now) l.names) l.name ≡ is_named (map (λ t. t.now) (drop l.own-index l.names)) l.name
