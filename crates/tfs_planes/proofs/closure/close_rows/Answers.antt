-- If no order closed the rows, their closure is unchanged.
use Rattle.std.proofs.Common.{sym, subst}
use Rattle.tfs_planes.specs.Targets.{IsBetween}
use Rattle.tfs_planes.proofs.PlacingLemmas.{closure_between}
use Rattle.tfs_planes.proofs.closure.close_rows.Goals as goal
use Rattle.tfs_planes.proofs.closure.close_rows.Goals.{then-count-le-FEW, else-count-le-FEW}

pub returns-then-not-closed : goal.returns-then-not-closed
returns-then-not-closed c =
    let between : IsBetween c.args.stride c.args.words.now c.if-count-le-FEW.words = elim c.if-count-le-FEW.branch [
      | then-count-le-FEW w ↦ subst (IsBetween c.args.stride c.args.words.now) (sym w.words-is) w.close_few-closed.ensures.between
      | else-count-le-FEW w ↦ subst (IsBetween c.args.stride c.args.words.now) (sym w.words-is) w.close_many-closed.ensures.between
    ] in
    closure_between c.args.stride c.args.words.now c.if-count-le-FEW.words c.close_by_blocks.new.words between c.close_by_blocks.ensures
