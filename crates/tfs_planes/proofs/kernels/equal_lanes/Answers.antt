-- No lane differs if and only if the chunks are equal.
use Rattle.std.specs.Simd.Lanes.{chunk}
use Rattle.std.proofs.lemmas.Simd.{length-chunk}
use Rattle.tfs_planes.proofs.KernelLemmas.{differ_mask}
use Rattle.tfs_planes.proofs.kernels.equal_lanes.Goals as goal

pub returns : goal.returns
returns c =
    let xs = c.args.left.now in
    let ys = c.args.right.now in
    let at = c.args.at in
    differ_mask (chunk at 8 xs) (chunk at 8 ys) (length-chunk at 8 xs c.requires.left) (length-chunk at 8 ys c.requires.right)
