-- The rows before the current one are placed.
use Rattle.std.proofs.Common.{ℕ, ◌<◌, IsTrue}
use Rattle.tfs_planes.specs.Row.{bit_at_word}
use Rattle.tfs_planes.proofs.placing.are_all_placed.Given as goal

abbrev pub invariant-loop-row : goal.invariant-loop-row
invariant-loop-row l = (i : ℕ) → i < l.row → IsTrue (bit_at_word l.placed i)
