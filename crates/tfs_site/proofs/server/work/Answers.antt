-- Several threads may call the closure, since they may use all that it borrows.
use denote.Exit.{no}
use denote.Param.Send.{param_sync, arg_sync, shr_sync}
use Rattle.std.proofs.sync.atomic.AtomicBool.TheSendSync as atomic
use Rattle.tfs_connections.proofs.any_listener.AnyListener.TheSendSync as listener
use Rattle.tfs_connections.proofs.load.Load.TheSendSync as load
use Rattle.tfs_site.proofs.Crossing.{five_sync, source_sync}
use Rattle.tfs_site.proofs.server.work.Goals as goal

pub for_each_mut-requires-sync-F : goal.for_each_mut-requires-sync-F
for_each_mut-requires-sync-F g c κs within = param_sync 2 _ (arg_sync _ no _ (five_sync _ _ _ _ _ _
    (shr_sync _ _ _ listener.the_sync) (shr_sync _ _ _ c.type_bounds.sync-R) (shr_sync _ _ _ atomic.the_sync) (shr_sync _ _ _ load.the_sync)
    (shr_sync _ _ _ (source_sync _))))
