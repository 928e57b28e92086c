-- Each step compares the next block.
use Rattle.std.proofs.Common.{◌+◌, ◌*◌, refl, arith}
use Rattle.tfs_planes.proofs.KernelLemmas.{same_with_chunk}
use Rattle.tfs_planes.proofs.kernels.equal_blocks.Goals as goal

pub loop-block-preserved : goal.loop-block-preserved
loop-block-preserved c =
    let n = c.loop-block.block in
    same_with_chunk (n * 8) 8 ((n + 1) * 8) c.args.left.now c.args.right.now (omega arith) c.loop-block.invariant (c.if-not-equal_lanes.ensures.0 refl)
