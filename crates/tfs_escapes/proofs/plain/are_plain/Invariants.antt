-- The bytes so far need no escape.
use Rattle.json.specs.Written.{PlainBetween}
use Rattle.tfs_escapes.proofs.plain.are_plain.Given as goal

abbrev pub invariant-loop-byte : goal.invariant-loop-byte
invariant-loop-byte l = PlainBetween l.text 0 l.byte-index
