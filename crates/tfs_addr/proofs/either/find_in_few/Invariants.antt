-- No byte before the index is either of the two.
use Rattle.std.proofs.Common.{◌≡◌, ℕ, ◌<◌, true, get_or}
use Rattle.memchr.specs.Find.{is_byte2}
use Rattle.tfs_addr.proofs.either.find_in_few.Given as goal

abbrev pub invariant-loop-index : goal.invariant-loop-index
invariant-loop-index l = (k : ℕ) → k < l.index → is_byte2 l.first l.second (get_or l.bytes k 0) ≡ true → ⊥
