-- Several threads may use a shared table.
use denote.Param.Send.{param_sync, arg_sync}
use Rattle.tfs_shared.proofs.Crossing.{shared_sync}
use Rattle.tfs_shared.proofs.threads.a_shared_table_is_sync.Goals as goal

pub takes_sync-requires-sync-T : goal.takes_sync-requires-sync-T
takes_sync-requires-sync-T g c κs within = search (shared_sync, param_sync, arg_sync, c.type_bounds.send-K) depth 8
