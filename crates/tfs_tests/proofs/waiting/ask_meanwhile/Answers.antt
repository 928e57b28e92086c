-- Several threads may call the closure: it borrows the handle, a shared table and the flag, which
-- they may use.
use denote.Exit.{no}
use denote.Param.{param}
use denote.Param.Send.{param_sync, arg_sync, shr_sync}
use Rattle.std.proofs.sync.atomic.AtomicU64.TheSendSync as atomic
use Rattle.tfs_shared.proofs.Captures.{three_sync}
use Rattle.tfs_shared.proofs.Crossing.{shared_sync}
use Rattle.tfs_tests.proofs.waiting.ask_meanwhile.Goals as goal

pub for_each_mut-requires-sync-F : goal.for_each_mut-requires-sync-F
for_each_mut-requires-sync-F g c κs within =
    let table = shared_sync (param 0 g.row.J) (param 1 g.row.K) g.J.Naming g.J.Ledger g.K.Sink c.type_bounds.send-K in
    param_sync 2 _ (arg_sync _ no _ (three_sync _ _ _ _
    (shr_sync _ _ _ c.type_bounds.sync-R) (shr_sync _ _ _ table) (shr_sync _ _ _ atomic.the_sync)))
