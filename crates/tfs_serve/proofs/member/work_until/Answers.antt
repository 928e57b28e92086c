-- Several threads may call the closure, since they may use all that it borrows. Each session has
-- worked.
use Rattle.std.proofs.Common.{slice_index_or, is_some, subst}
use denote.Builtin.{unit}
use denote.Exit.{no}
use denote.Param.{param}
use denote.Param.Send.{sendable, param_send, param_sync, arg_send, arg_sync, shr_sync}
use Rattle.std.proofs.sync.atomic.AtomicBool.TheSendSync as atomic
use Rattle.std.proofs.sync.Mutex.TheSendSync as mutex
use Rattle.std.proofs.alloc.Global.TheSendSync as global
use Rattle.tfs_shared.proofs.Crossing.{shared_sync}
use Rattle.tfs_serve.specs.Faults.{IsCaused}
use Rattle.tfs_serve.specs.Working.{HasReplied, end_of_work, nothing_written}
use Rattle.tfs_serve.proofs.Captures.{ten_sync}
use Rattle.tfs_serve.proofs.Sent.{member_send}
use Rattle.tfs_connections.proofs.load.Load.TheSendSync as load
use Rattle.tfs_serve.proofs.member.work_until.Goals as goal

pub for_each_mut-requires-sync-F : goal.for_each_mut-requires-sync-F
for_each_mut-requires-sync-F g c κs within =
    let table = shared_sync (param 1 g.row.J) (param 2 g.row.K) g.J.Naming g.J.Ledger g.K.Sink c.type_bounds.send-K in
    let turn = mutex.the_sync unit (search sendable) in
    param_sync 2 _ (arg_sync _ no _ (ten_sync _ _ _ _ _ _ _ _ _ _ _
    (shr_sync _ _ _ turn) (shr_sync _ _ _ turn) (shr_sync _ _ _ c.type_bounds.sync-R) (shr_sync _ _ _ global.the_sync) (shr_sync _ _ _ table)
    (shr_sync _ _ _ atomic.the_sync) (shr_sync _ _ _ atomic.the_sync) (shr_sync _ _ _ load.the_sync) (shr_sync _ _ _ c.type_bounds.sync-H)
    (shr_sync _ _ _ c.type_bounds.sync-L)))

pub returns : goal.returns
returns g c = record {
  caused = λ i d inside.
      let at = (c.for_each_mut.ensures i d inside).1 in
      subst (λ m. IsCaused m.fault) at.left at.call.0;
  worked = λ i d inside.
      let at = (c.for_each_mut.ensures i d inside).1 in
      let told = g.G.Gate.told in
      let new = slice_index_or c.for_each_mut.new.s i d in
      subst (λ m. HasReplied g.H.Hold.durable g.J.Naming.opening (told m.gate) (told new.gate) m.session new.session (end_of_work (is_some new.fault)) nothing_written new.written.value)
      at.argument_is
      (subst (λ m. HasReplied g.H.Hold.durable g.J.Naming.opening (told at.argument.now.gate) (told m.gate) at.argument.now.session m.session (end_of_work (is_some m.fault))
      nothing_written m.written.value) at.left at.call.1);
}

pub for_each_mut-requires-send-T : goal.for_each_mut-requires-send-T
for_each_mut-requires-send-T g c κs within = param_send 1 _
    (arg_send _ no _ (member_send (param 1 g.row.J) (param 3 g.row.G) g.J.Naming g.J.Ledger c.type_bounds.send-J c.type_bounds.sync-J c.type_bounds.send-G))
