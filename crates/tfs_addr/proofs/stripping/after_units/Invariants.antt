-- The units of the rest end where the units of all bytes end.
use Rattle.std.proofs.Common.{◌≡◌, length}
use Rattle.tfs_addr.specs.Steps.{units_rest}
use Rattle.tfs_addr.proofs.stripping.after_units.Given as goal

abbrev pub invariant-loop-mark : goal.invariant-loop-mark
invariant-loop-mark l = units_rest l.bytes ≡ units_rest l.rest

abbrev pub decreases-loop-mark : goal.decreases-loop-mark
decreases-loop-mark l = length l.rest
