-- Each step appends one more put.
use Rattle.std.specs.Prelude.{string_bytes}
use Rattle.tfs_etcd.specs.Requests.{put_operation}
use Rattle.tfs_etcd.proofs.PutLemmas.{puts_more}
use Rattle.tfs_etcd.proofs.transaction.put_operations.Goals as goal

pub loop-put-preserved : goal.loop-put-preserved
loop-put-preserved c =
    puts_more (put_operation c.args.first.now) c.args.more.now c.loop-put.put-index c.put-item.result (string_bytes c.loop-put.text)
    (string_bytes c.push_operation.new.text) c.loop-put-test.true c.in_ok-push_operation.ensures.text c.put-item.is c.loop-put.invariant
