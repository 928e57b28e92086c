-- The rows of the targets from the current block on are collected.
use Rattle.std.proofs.Common.{◌*◌, length}
use Rattle.tfs_planes.specs.Targets.{ArePlacedClosed, HasCome, Gathers}
use Rattle.tfs_planes.proofs.placing.gather.Given as goal

abbrev pub invariant-loop-block : goal.invariant-loop-block
invariant-loop-block l =
    ArePlacedClosed (length l.initial.came) l.words l.placed → HasCome (length l.initial.came) l.words l.own l.row l.initial.came
    → Gathers (length l.initial.came) l.words l.own l.row l.initial.came l.came (64 * (l.block * 8)) (64 * length l.initial.came)
