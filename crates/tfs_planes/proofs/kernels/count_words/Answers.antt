-- The count of the blocks and the count of the words after them add up to the count of all words.
use Rattle.std.proofs.Common.{◌*◌, ◌/◌, count_ones, length, arith, sum_by, ap}
use Rattle.std.proofs.lemmas.List.{take_rest}
use Rattle.std.proofs.lemmas.List.Sums.{sum_by-take-drop}
use Rattle.tfs_planes.proofs.KernelLemmas.{count_bound}
use Rattle.tfs_planes.proofs.kernels.count_words.Goals as goal

pub overflow_add-result : goal.overflow_add-result
overflow_add-result c =
    let xs = c.args.words.now in
    let n = length xs / 8 * 8 in
    record {
      fits = omega (
        arith,
        c.count_blocks.ensures,
        c.count_singly.ensures,
        ap (sum_by count_ones) (take_rest xs n),
        sum_by-take-drop count_ones xs n,
        count_bound xs c.type_inv.words,
      );
    }

pub returns : goal.returns
returns c = record {
  count =
      let xs = c.args.words.now in
      let n = length xs / 8 * 8 in
      omega (arith, c.count_blocks.ensures, c.count_singly.ensures, ap (sum_by count_ones) (take_rest xs n), sum_by-take-drop count_ones xs n);
}
