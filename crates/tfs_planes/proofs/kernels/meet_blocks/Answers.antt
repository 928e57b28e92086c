-- Each step combines the next block, and at the end all blocks are combined.
use Rattle.std.proofs.Common.{◌+◌, ◌*◌, ◌∙◌, bit_and, arith}
use Rattle.tfs_planes.proofs.KernelLemmas.{front_all, front_chunk}
use Rattle.tfs_planes.proofs.kernels.meet_blocks.Goals as goal

pub loop-block-preserved : goal.loop-block-preserved
loop-block-preserved c =
    rw (c.meet_lanes.ensures, c.loop-block.invariant) (front_chunk bit_and (c.loop-block.block * 8) 8 ((c.loop-block.block + 1) * 8) c.args.words.now
    c.args.others.now (omega arith) c.requires.lengths)

pub returns : goal.returns
returns c = c.loop-block.invariant ∙ front_all bit_and (c.loop-block.block * 8) c.args.words.now c.args.others.now (omega arith) c.requires.lengths
