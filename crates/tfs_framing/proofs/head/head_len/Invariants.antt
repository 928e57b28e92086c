-- No line feed passed so far is followed by an empty line.
use Rattle.std.proofs.Common.{ℕ, List, length}
use Rattle.tfs_framing.proofs.HeadLemmas.{PassedOver}
use Rattle.tfs_framing.proofs.head.head_len.Given as goal

abbrev pub invariant-loop-byte : goal.invariant-loop-byte
invariant-loop-byte l = (front : List ℕ) × PassedOver l.bytes front l.rest

abbrev pub decreases-loop-byte : goal.decreases-loop-byte
decreases-loop-byte l = length l.rest
