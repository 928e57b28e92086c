-- A key of one digit ends after its closing bracket.
use Rattle.std.proofs.Common.{arith}
use Rattle.tfs_addr.proofs.KeyLemmas.{KeyEnds-boundary_at, KeyEnds-one_digit}
use Rattle.tfs_addr.proofs.stripping.after_digit_key.Goals as goal

pub split_at-requires : goal.split_at-requires
split_at-requires c =
    let ends = KeyEnds-one_digit c.as_bytes.result.now c.as_bytes.ensures.utf8 (omega arith) (omega arith) (omega arith) (omega arith) (omega arith) in
    rw c.as_bytes.ensures.value at (KeyEnds-boundary_at c.as_bytes.result.now 3 (omega arith) ends)

pub returns-in-91 : goal.returns-in-91
returns-in-91 c =
    let ends = KeyEnds-one_digit c.as_bytes.result.now c.as_bytes.ensures.utf8 (omega arith) (omega arith) (omega arith) (omega arith) (omega arith) in
    rw c.split_at.ensures.back (rw c.as_bytes.ensures.value at ends.key)
