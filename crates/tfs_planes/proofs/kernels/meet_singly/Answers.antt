-- Each step combines the next word, and at the end all words are combined.
use Rattle.std.proofs.Common.{◌+◌, ◌∙◌, bit_and, refl, arith}
use Rattle.tfs_planes.proofs.KernelLemmas.{front_all, front_set}
use Rattle.tfs_planes.proofs.kernels.meet_singly.Goals as goal

pub loop-i-preserved : goal.loop-i-preserved
loop-i-preserved c =
    rw c.loop-i.invariant (front_set bit_and c.loop-i.i (c.loop-i.i + 1) c.args.words.now c.args.others.now 0 0 refl c.requires (omega arith))

pub returns : goal.returns
returns c = c.loop-i.invariant ∙ front_all bit_and c.loop-i.i c.args.words.now c.args.others.now (omega arith) c.requires
