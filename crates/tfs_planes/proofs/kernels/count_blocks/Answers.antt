-- Each step counts the next block, and no sum exceeds the bound.
use Rattle.std.proofs.Common.{◌+◌, ◌*◌, count_ones, arith}
use Rattle.std.proofs.lemmas.List.Sums.{sum_by-take-le}
use Rattle.tfs_planes.proofs.KernelLemmas.{sum_chunk, count_bound}
use Rattle.tfs_planes.proofs.kernels.count_blocks.Goals as goal

pub overflow_add-count : goal.overflow_add-count
overflow_add-count c =
    let xs = c.args.words.now in
    let n = c.loop-block.block in
    record {
      fits = omega (
        arith,
        c.loop-block.invariant,
        c.count_lanes-count.ensures,
        sum_chunk count_ones (n * 8) 8 ((n + 1) * 8) xs (omega arith),
        sum_by-take-le count_ones xs ((n + 1) * 8),
        count_bound xs c.type_inv.words,
      );
    }

pub loop-block-preserved : goal.loop-block-preserved
loop-block-preserved c =
    let n = c.loop-block.block in
    omega (arith, c.loop-block.invariant, c.count_lanes-count.ensures, sum_chunk count_ones (n * 8) 8 ((n + 1) * 8) c.args.words.now (omega arith))
