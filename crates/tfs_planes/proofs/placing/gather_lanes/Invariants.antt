-- The rows of the targets from the current word on are collected.
use Rattle.std.proofs.Common.{◌+◌, ◌*◌, length}
use Rattle.tfs_planes.specs.Targets.{ArePlacedClosed, HasCome, Gathers}
use Rattle.tfs_planes.proofs.placing.gather_lanes.Given as goal

abbrev pub invariant-loop-word : goal.invariant-loop-word
invariant-loop-word l =
    ArePlacedClosed (length l.initial.came) l.words l.placed → HasCome (length l.initial.came) l.words l.own l.row l.initial.came
    → Gathers (length l.initial.came) l.words l.own l.row l.initial.came l.came (64 * l.word) (64 * (l.at + 8))
