-- Each step reads one more pair.
use Rattle.tfs_etcd.proofs.PairLemmas.{pairs_more}
use Rattle.tfs_etcd.proofs.pairs.pairs.Goals as goal

pub loop-member-preserved : goal.loop-member-preserved
loop-member-preserved c = rw c.in_ok-keep.ensures.kept
    (pairs_more c.args.found.now c.loop-member.member-index c.member-item.result c.loop-member.pairs.items c.in_ok-pair.pair c.loop-member-test.true
    c.member-item.is c.loop-member.invariant c.in_ok-pair.ensures.ok)
