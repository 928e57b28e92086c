-- The union leaves the other block unchanged if and only if that block has every bit.
use Rattle.std.proofs.Common.{bit_or, arith, ◌∙◌}
use Rattle.std.proofs.lemmas.Simd.{length-chunk, length-zip2}
use Rattle.std.specs.Simd.Lanes.{chunk, zip2}
use Rattle.tfs_planes.proofs.KernelLemmas.{differ_mask}
use Rattle.tfs_planes.proofs.kernels.covers_lanes.Goals as goal

pub returns : goal.returns
returns c =
    let xs = chunk c.args.at 8 c.args.words.now in
    let ys = chunk c.args.at 8 c.args.others.now in
    let long = length-chunk c.args.at 8 c.args.words.now c.requires.words in
    let also = length-chunk c.args.at 8 c.args.others.now c.requires.others in
    differ_mask (zip2 bit_or xs ys) ys (length-zip2 bit_or xs ys (omega (arith, long, also)) ∙ long) also
