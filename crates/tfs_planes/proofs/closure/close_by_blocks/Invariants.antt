-- The set bits are the walks with inner numbers in the blocks before the current one.
use Rattle.std.proofs.Common.{◌*◌, min}
use Rattle.tfs_planes.specs.Plane.{cell_at}
use Rattle.tfs_planes.specs.Rounds.{AllJoins}
use Rattle.tfs_planes.proofs.closure.close_by_blocks.Given as goal

abbrev pub invariant-loop-block : goal.invariant-loop-block
invariant-loop-block l = AllJoins l.stride l.words (cell_at l.stride l.initial.words) (min (l.block * 64) l.count)
