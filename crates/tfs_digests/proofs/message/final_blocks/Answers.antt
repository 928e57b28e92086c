use Rattle.tfs_digests.proofs.BlockLemmas.{marked_at_the_seam}
use Rattle.tfs_digests.proofs.message.final_blocks.Goals as goal

pub returns : goal.returns
returns c = rw c.copy_from_slice.ensures.after (marked_at_the_seam c.args.left.now c.requires)
