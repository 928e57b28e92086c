-- The lines so far leave this room.
use Rattle.std.proofs.Common.{◌≡◌, ◌+◌, length, take, map}
use Rattle.std.specs.Prelude.{sum, string_bytes}
use Rattle.tfs_plan_reports.proofs.text.fitting.Given as goal

abbrev pub invariant-loop-kept : goal.invariant-loop-kept
invariant-loop-kept l = l.left + sum (map (λ t. length (string_bytes t)) (take l.kept l.lines)) ≡ l.room
