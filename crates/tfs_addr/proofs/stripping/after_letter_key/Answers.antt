-- A key of one byte in quotes ends after its closing bracket.
use Rattle.std.proofs.Common.{arith}
use Rattle.tfs_addr.proofs.KeyLemmas.{KeyEnds-boundary_at, KeyEnds-one_unit}
use Rattle.tfs_addr.proofs.stripping.after_letter_key.Goals as goal

pub split_at-requires : goal.split_at-requires
split_at-requires c =
    let text = c.as_bytes.result.now in
    let no_quote = c.if-letter-ne34.true in
    let plain = c.if-letter-ne92.true in
    let ends = KeyEnds-one_unit text c.as_bytes.ensures.utf8 (omega arith) (omega arith) (omega arith) no_quote plain (omega arith) (omega arith) in
    rw c.as_bytes.ensures.value at (KeyEnds-boundary_at c.as_bytes.result.now 5 (omega arith) ends)

pub returns-in-91 : goal.returns-in-91
returns-in-91 c =
    let text = c.as_bytes.result.now in
    let no_quote = c.if-letter-ne34.true in
    let plain = c.if-letter-ne92.true in
    let ends = KeyEnds-one_unit text c.as_bytes.ensures.utf8 (omega arith) (omega arith) (omega arith) no_quote plain (omega arith) (omega arith) in
    rw c.split_at.ensures.back (rw c.as_bytes.ensures.value at ends.key)
