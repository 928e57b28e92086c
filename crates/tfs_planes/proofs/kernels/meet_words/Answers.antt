-- The blocks and the words after them are all the words.
use Rattle.std.proofs.Common.{◌*◌, ◌/◌, ◌++◌, length, drop, bit_and, arith, ◌∙◌, ap₂}
use Rattle.std.proofs.lemmas.List.{length-append, length-drop, take_rest}
use Rattle.std.specs.Simd.Lanes.{zip2}
use Rattle.tfs_planes.proofs.KernelLemmas.{parts_combined}
use Rattle.tfs_planes.proofs.kernels.meet_words.Goals as goal

pub returns : goal.returns
returns c = record {
  meet =
      let xs = c.args.words.now in
      let ys = c.args.others.now in
      let n = length xs / 8 * 8 in
      let done = c.meet_blocks.new.words in
      parts_combined bit_and n _ xs ys done c.meet_singly.new.words (omega arith) c.requires.lengths c.meet_blocks.ensures
      (c.meet_singly.ensures ∙ ap₂ (zip2 bit_and) (take_rest (done ++ drop n xs) n) (take_rest ys n))
      (omega (arith, length-append done (drop n xs), length-drop n xs));
}
