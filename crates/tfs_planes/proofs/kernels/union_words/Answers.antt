-- The blocks and the words after them are all the words.
use Rattle.std.proofs.Common.{◌*◌, ◌/◌, ◌++◌, length, drop, bit_or, arith, ◌∙◌, ap₂}
use Rattle.std.proofs.lemmas.List.{length-append, length-drop, take_rest}
use Rattle.std.specs.Simd.Lanes.{zip2}
use Rattle.tfs_planes.proofs.KernelLemmas.{parts_combined}
use Rattle.tfs_planes.proofs.kernels.union_words.Goals as goal

pub returns : goal.returns
returns c = record {
  union =
      let xs = c.args.words.now in
      let ys = c.args.others.now in
      let n = length xs / 8 * 8 in
      let done = c.union_blocks.new.words in
      parts_combined bit_or n _ xs ys done c.union_singly.new.words (omega arith) c.requires.lengths c.union_blocks.ensures
      (c.union_singly.ensures ∙ ap₂ (zip2 bit_or) (take_rest (done ++ drop n xs) n) (take_rest ys n))
      (omega (arith, length-append done (drop n xs), length-drop n xs));
}
