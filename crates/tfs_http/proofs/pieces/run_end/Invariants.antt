-- The numbers so far are consecutive.
use Rattle.std.proofs.Common.{◌≡◌, ◌+◌}
use Rattle.tfs_http.specs.Pieces.{IsRun}
use Rattle.tfs_http.proofs.pieces.run_end.Given as goal

abbrev pub invariant-loop-number : goal.invariant-loop-number
invariant-loop-number l = IsRun l.numbers l.first l.number-index × (l.end ≡ l.first + l.number-index)
