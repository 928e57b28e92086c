-- The collected bits are the row of the latest target, if it is a placed target, and otherwise
-- none.
use Rattle.std.proofs.Common.{length, sym, subst, ◌∙◌}
use Rattle.tfs_planes.specs.Targets.{HasCome}
use Rattle.tfs_planes.proofs.TargetLemmas.{come_none, come_target}
use Rattle.tfs_planes.proofs.placing.begin.Goals as goal

pub returns-then-bit-2 : goal.returns-then-bit-2
returns-then-bit-2 c = λ closed.
    come_target (length c.args.came.now) c.args.words.now c.args.own.now c.args.row c.args.placed.now c.args.latest
    c.row_at.result.now c.copy_with_bit.new.words closed (sym c.bit.ensures ∙ c.if-bit.true, c.if-latest-row.true)
    (sym c.bit-then-bit.ensures ∙ c.if-bit-2.true) c.row_at.ensures.row c.copy_with_bit.ensures

pub returns-else-latest-row : goal.returns-else-latest-row
returns-else-latest-row c = λ closed.
    let s = length c.args.came.now in
    let words = c.args.words.now in
    let own = c.args.own.now in
    subst (HasCome s words own c.args.row) (sym c.clear_words.ensures) (come_none s words own c.args.row s)
