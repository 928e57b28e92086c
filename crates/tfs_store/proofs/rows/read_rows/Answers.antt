-- Each step reads one more row.
use Rattle.tfs_store.proofs.RowLemmas.{rows_more}
use Rattle.tfs_store.proofs.rows.read_rows.Goals as goal

pub loop-pair-preserved : goal.loop-pair-preserved
loop-pair-preserved c = rw c.in_ok-keep.ensures.kept
    (rows_more c.args.prefix.now c.args.pairs.now c.loop-pair.pair-index c.pair-item.result c.loop-pair.rows.items c.in_ok-row.row c.loop-pair-test.true
    c.pair-item.is c.loop-pair.invariant c.in_ok-row.ensures.ok)
