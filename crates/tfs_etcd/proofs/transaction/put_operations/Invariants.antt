-- The text has the puts so far.
use Rattle.std.proofs.Common.{◌≡◌, ◌++◌, take}
use Rattle.std.specs.Prelude.{string_bytes}
use Rattle.std.specs.List.{flat_map}
use Rattle.tfs_etcd.specs.Requests.{put_operation, later_operation}
use Rattle.tfs_etcd.proofs.transaction.put_operations.Given as goal

abbrev pub invariant-loop-put : goal.invariant-loop-put
invariant-loop-put l = string_bytes l.text ≡ put_operation l.fn.first ++ flat_map later_operation (take l.put-index l.more)
