-- The row is united with the other if its bit is set.
use Rattle.std.proofs.Common.{sym, ◌∙◌}
use Rattle.tfs_planes.proofs.RoundLemmas.{row_through_clear, row_through_set}
use Rattle.tfs_planes.proofs.closure.absorb.Goals as goal

pub returns-then-bit : goal.returns-then-bit
returns-then-bit c = c.union_words.ensures.union ∙ sym (row_through_set c.args.other.now c.args.column c.args.row.now (sym c.bit.ensures ∙ c.if-bit.true))

pub returns-else-bit : goal.returns-else-bit
returns-else-bit c = sym (row_through_clear c.args.other.now c.args.column c.args.row.now (sym c.bit.ensures ∙ c.if-bit.false))
