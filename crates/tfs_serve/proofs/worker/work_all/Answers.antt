-- Several threads may call the closure, since they may use all that it borrows. Each session
-- advances.
use Rattle.std.proofs.Common.{◌≡◌, true, false, slice_index_or, subst}
use denote.Builtin.{unit}
use denote.Exit.{no}
use denote.Param.{param}
use denote.Param.Send.{sendable, param_sync, arg_sync, shr_sync}
use Rattle.std.proofs.sync.atomic.AtomicBool.TheSendSync as atomic
use Rattle.std.proofs.sync.Mutex.TheSendSync as mutex
use Rattle.std.proofs.alloc.Global.TheSendSync as global
use Rattle.tfs_shared.proofs.Crossing.{shared_sync}
use Rattle.tfs_serve.specs.Gate.{IsAdmitted, IsClosed}
use Rattle.tfs_serve.specs.Session.{IsLater}
use Rattle.tfs_serve.specs.Working.{HasWorked, end_of_work}
use Rattle.tfs_serve.proofs.Captures.{eight_sync}
use Rattle.tfs_connections.proofs.load.Load.TheSendSync as load
use Rattle.tfs_serve.proofs.worker.work_all.Goals as goal

pub for_each_mut-requires-sync-F : goal.for_each_mut-requires-sync-F
for_each_mut-requires-sync-F g c κs within =
    let table = shared_sync (param 1 g.row.J) (param 2 g.row.K) g.J.Naming g.J.Ledger g.K.Sink c.type_bounds.send-K in
    let turn = mutex.the_sync unit (search sendable) in
    param_sync 2 _ (arg_sync _ no _ (eight_sync _ _ _ _ _ _ _ _ _
    (shr_sync _ _ _ turn) (shr_sync _ _ _ turn) (shr_sync _ _ _ c.type_bounds.sync-R) (shr_sync _ _ _ global.the_sync) (shr_sync _ _ _ table)
    (shr_sync _ _ _ atomic.the_sync) (shr_sync _ _ _ load.the_sync) (shr_sync _ _ _ c.type_bounds.sync-L)))

pub returns : goal.returns
returns g c = record {
  later = λ i d inside.
      let at = (c.for_each_mut.ensures i d inside).1 in
      subst (λ w. IsLater w.session (slice_index_or c.for_each_mut.new.s i d).session) at.argument_is
      (subst (λ w. IsLater at.argument.now.session w.session) at.left at.call.0);
  admitted = λ i d inside.
      let at = (c.for_each_mut.ensures i d inside).1 in
      subst (λ w. w.failed ≡ true → IsAdmitted (g.G.Gate.told w.gate)) at.left at.call.1.0;
  closed = λ i d inside.
      let at = (c.for_each_mut.ensures i d inside).1 in
      subst (λ w. w.failed ≡ false → IsClosed (g.G.Gate.told w.gate)) at.left at.call.1.1.0;
  worked = λ i d inside.
      let at = (c.for_each_mut.ensures i d inside).1 in
      let told = g.G.Gate.told in
      let new = slice_index_or c.for_each_mut.new.s i d in
      subst (λ w. HasWorked g.J.Naming.opening (told w.gate) (told new.gate) w.session new.session (end_of_work new.failed)) at.argument_is
      (subst (λ w. HasWorked g.J.Naming.opening (told at.argument.now.gate) (told w.gate) at.argument.now.session w.session (end_of_work w.failed))
      at.left at.call.1.1.1);
}
