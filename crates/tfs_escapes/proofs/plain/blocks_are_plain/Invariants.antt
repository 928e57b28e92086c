-- The blocks so far need no escape.
use Rattle.std.proofs.Common.{◌-◌, length}
use Rattle.json.specs.Written.{PlainBetween}
use Rattle.tfs_escapes.proofs.plain.blocks_are_plain.Given as goal

abbrev pub invariant-blocks-2 : goal.invariant-blocks-2
invariant-blocks-2 l = PlainBetween l.text 0 l.at

abbrev pub decreases-blocks-2 : goal.decreases-blocks-2
decreases-blocks-2 l = length l.text - l.at
