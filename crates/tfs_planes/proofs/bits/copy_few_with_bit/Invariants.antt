-- The words before the current one are the words of the other list with the bit set.
use Rattle.std.proofs.Common.{◌≡◌, ℕ, ◌<◌, length, get_or}
use Rattle.tfs_planes.proofs.BitLemmas.{with_bit}
use Rattle.tfs_planes.proofs.bits.copy_few_with_bit.Given as goal

abbrev pub invariant-loop-at : goal.invariant-loop-at
invariant-loop-at l = (length l.words ≡ length l.others) × ((k : ℕ) → k < l.at → get_or l.words k 0 ≡ get_or (with_bit l.others l.i) k 0)
