-- No sum exceeds the bound.
use Rattle.std.proofs.Common.{count_ones, arith}
use Rattle.std.proofs.lemmas.List.Sums.{sum_by_more_le}
use Rattle.tfs_planes.proofs.KernelLemmas.{count_bound}
use Rattle.tfs_planes.proofs.kernels.count_singly.Goals as goal

pub overflow_add-count : goal.overflow_add-count
overflow_add-count c =
    let xs = c.args.words.now in
    record {
      fits = omega (
        arith,
        c.loop-word.invariant,
        c.from-count.ensures,
        sum_by_more_le count_ones xs c.loop-word.word-index 0 (omega arith),
        count_bound xs c.type_inv.words,
      );
    }
