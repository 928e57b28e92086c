-- The bytes before `left` are decoded.
use Rattle.std.proofs.Common.{ℕ, List, ◌-◌}
use Rattle.tfs_framing.specs.Decoded.{HasPassed}
use Rattle.tfs_framing.specs.Parts.{EndsWith}
use Rattle.tfs_framing.proofs.body.decode_body.Given as goal

abbrev pub invariant-loop-decoded : goal.invariant-loop-decoded
invariant-loop-decoded l = record {
  passed : (rest : List ℕ) → HasPassed rest l.fn.decoded l.fn.left → HasPassed rest l.decoded l.left;
  ends : EndsWith l.fn.left l.left;
}

abbrev pub decreases-loop-decoded : goal.decreases-loop-decoded
decreases-loop-decoded l = 65536 - l.decoded.count
