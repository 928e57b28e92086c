-- The list has the numbers below the current one whose bit is set.
use Rattle.std.proofs.Common.{◌≡◌}
use Rattle.tfs_planes.specs.Row.{members_of}
use Rattle.tfs_planes.proofs.bits.members_of.Given as goal

abbrev pub invariant-loop-i : goal.invariant-loop-i
invariant-loop-i g l = l.numbers.items ≡ members_of l.i l.words
