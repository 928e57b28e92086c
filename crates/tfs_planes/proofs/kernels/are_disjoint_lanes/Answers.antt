-- No lane of what the blocks have in common differs from 0 if and only if each is 0.
use Rattle.std.proofs.Common.{ℕ, bit_and, replicate, arith, ◌∙◌}
use Rattle.std.proofs.lemmas.List.{length-replicate}
use Rattle.std.proofs.lemmas.Simd.{length-chunk, length-zip2}
use Rattle.std.specs.Simd.Lanes.{chunk, zip2}
use Rattle.tfs_planes.proofs.KernelLemmas.{differ_mask}
use Rattle.tfs_planes.proofs.kernels.are_disjoint_lanes.Goals as goal

pub returns : goal.returns
returns c =
    let xs = chunk c.args.at 8 c.args.words.now in
    let ys = chunk c.args.at 8 c.args.others.now in
    let long = length-chunk c.args.at 8 c.args.words.now c.requires.words in
    let also = length-chunk c.args.at 8 c.args.others.now c.requires.others in
    differ_mask (zip2 bit_and xs ys) (replicate 8 0) (length-zip2 bit_and xs ys (omega (arith, long, also)) ∙ long) (length-replicate {A = ℕ} 8 0)
