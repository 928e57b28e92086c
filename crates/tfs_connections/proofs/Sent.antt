-- Connections and the place where they wait may be used by several threads.
use denote.Param.Send.{IsSend, IsSync, struct_send, struct_sync, recorded_send, recorded_sync, sendable}
use denote.Struct.Declared.{shape}
use Rattle.std.proofs.Crossing.{crosses}
use Rattle.std.specs.contracts.alloc.Global as Global
use Rattle.std.specs.contracts.impls.GlobalAllocator.TheImpl as GlobalAllocator
use Rattle.std.specs.contracts.sync.Mutex as Mutex
use Rattle.std.proofs.sync.Mutex.TheSendSync as mutex
use Rattle.std.specs.contracts.sync.atomic.AtomicU64 as AtomicU64
use Rattle.std.proofs.sync.atomic.AtomicU64.TheSendSync as atomic
use Rattle.mio.proofs.poll.Registry.TheSendSync as registry
use Rattle.slab.specs.contracts.Slab as Slab
use Rattle.slab.proofs.Slab.TheSendSync as slab
use Rattle.tfs_conversation.proofs.Sent.{paused_send}
use Rattle.tfs_connections.proofs.any_listener.AnyListener.TheSendSync as listener
use Rattle.tfs_connections.proofs.any_listener.AnyStream.TheSendSync as stream
use Rattle.tfs_connections.proofs.waits.Waits.TheSendSync as waits
use Rattle.tfs_connections.specs.contracts.lasting.LastingStream as LastingStream
use Rattle.tfs_connections.specs.contracts.parked.Parked as Parked
use Rattle.tfs_connections.specs.contracts.parked.ParkedConnections as ParkedConnections
use Rattle.tfs_connections.specs.contracts.paused.Paused as Paused
use Rattle.tfs_connections.specs.contracts.waits.Waits as Waits

paused_field : IsSend Paused.the_field.row
paused_field = search (sendable, crosses, paused_send) depth 30

parked_send : IsSend Parked.the_row
parked_send =
    recorded_send Parked.the_field.row _ _ Parked.the_type.to_one
    (struct_send (shape Parked.the_type) (stream.the_field_send, (paused_field, (search (sendable, crosses) depth 20, tt))))

slab_send : IsSend (Slab.the_row Parked.the_row Global.the_row GlobalAllocator.ghosts)
slab_send = search (sendable, crosses, parked_send, slab.the_send) depth 30

waits_send : IsSend (Mutex.the_field Waits.the_row).row
waits_send = let row = mutex.the_send _ waits.the_send in search (sendable, row) depth 20

waits_sync : IsSync (Mutex.the_field Waits.the_row).row
waits_sync = let row = mutex.the_sync _ waits.the_send in search (sendable, row) depth 20

all_send : IsSend (Mutex.the_field (Slab.the_row Parked.the_row Global.the_row GlobalAllocator.ghosts)).row
all_send = let row = mutex.the_send _ slab_send in search (sendable, row) depth 20

all_sync : IsSync (Mutex.the_field (Slab.the_row Parked.the_row Global.the_row GlobalAllocator.ghosts)).row
all_sync = let row = mutex.the_sync _ slab_send in search (sendable, row) depth 20

crowd_send : IsSend AtomicU64.the_field.row
crowd_send = search (sendable, atomic.the_send) depth 20

crowd_sync : IsSync AtomicU64.the_field.row
crowd_sync = search (sendable, atomic.the_sync) depth 20

pub place_send : IsSend ParkedConnections.the_row
place_send =
    recorded_send ParkedConnections.the_field.row _ _ ParkedConnections.the_type.to_one
    (struct_send (shape ParkedConnections.the_type)
    (listener.the_field_send, (waits_send, (all_send, (search sendable, (registry.the_field_send, (crowd_send, tt)))))))

pub place_sync : IsSync ParkedConnections.the_row
place_sync =
    recorded_sync ParkedConnections.the_field.row _ _ ParkedConnections.the_type.to_one
    (struct_sync (shape ParkedConnections.the_type)
    (listener.the_field_sync, (waits_sync, (all_sync, (search sendable, (registry.the_field_sync, (crowd_sync, tt)))))))

pub lasting_send : IsSend LastingStream.the_row
lasting_send = search (sendable, crosses, paused_field, place_send, place_sync) depth 40
