-- Each step adds the next lane block, which is skipped if its targets are collected bits.
use Rattle.std.proofs.Common.{◌≡◌, ◌+◌, ◌-◌, ◌*◌, length, sym, subst, arith}
use Rattle.tfs_planes.specs.Targets.{Gathers}
use Rattle.tfs_planes.proofs.TargetLemmas.{gathers_block, gathers_more, gathers_skip}
use Rattle.tfs_planes.proofs.placing.gather.Goals as goal
use Rattle.tfs_planes.proofs.placing.gather.Goals.{else-not-covers_lanes-via-then-not-covers_lanes+else-not-gather_lanes}
use Rattle.tfs_planes.proofs.placing.gather.Goals.{else-not-covers_lanes-via-else-not-covers_lanes}

pub loop-block-preserved : goal.loop-block-preserved
loop-block-preserved c = λ closed come.
    let s = length c.args.came.now in
    let words = c.args.words.now in
    let own = c.args.own.now in
    let row = c.args.row in
    let mid = c.loop-block.came in
    let at = (c.loop-block.block - 1) * 8 in
    let so_far = c.loop-block.invariant closed come in
    let meets : 64 * (at + 8) ≡ 64 * (c.loop-block.block * 8) = omega arith in
    elim c.else-not-covers_lanes.branch [
      | else-not-covers_lanes-via-then-not-covers_lanes+else-not-gather_lanes w ↦
          subst (λ came. Gathers s words own row c.args.came.now came (64 * at) (64 * s)) (sym w.came-is)
          (gathers_block s (length mid) words own row c.args.placed.now c.args.came.now mid w.gather_lanes.new.came (64 * at) (64 * (at + 8))
          (64 * (c.loop-block.block * 8)) (64 * s) c.loop-block.auto.came meets so_far (w.gather_lanes.ensures w.if-not-gather_lanes.false) closed)
      | else-not-covers_lanes-via-else-not-covers_lanes w ↦
          let skip = gathers_skip s words own row mid at (omega arith) (omega arith) (c.covers_lanes.ensures.0 w.if-not-covers_lanes.false) so_far.come in
          subst (λ came. Gathers s words own row c.args.came.now came (64 * at) (64 * s)) (sym w.came-is)
          (gathers_more s words own row c.args.came.now mid mid (64 * at) (64 * (c.loop-block.block * 8)) (64 * s) so_far
          (subst (λ m. Gathers s words own row mid mid (64 * at) m) meets skip))
    ]
