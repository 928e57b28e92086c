-- No bit is set in the words before the current one.
use Rattle.std.proofs.Common.{◌≡◌, ℕ, ◌*◌, ◌<◌, ◌≤◌, false}
use Rattle.tfs_planes.specs.Row.{bit_at_word}
use Rattle.tfs_planes.proofs.bits.next_bit.Given as goal

abbrev pub invariant-loop-at : goal.invariant-loop-at
invariant-loop-at l = (k : ℕ) → l.from ≤ k → k < 64 * l.at → bit_at_word l.words k ≡ false
