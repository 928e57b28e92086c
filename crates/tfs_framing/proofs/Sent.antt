-- A decoder may move to another thread.
use denote.Param.Send.{IsSend, recorded_send, struct_send, sendable}
use denote.Struct.Declared.{shape}
use Rattle.std.proofs.Crossing.{frees}
use Rattle.std.proofs.alloc.Global.TheSendSync as heap
use Rattle.std.specs.contracts.alloc.Global as Global
use Rattle.std.specs.contracts.impls.GlobalAllocator.TheImpl as GlobalAllocator
use Rattle.bytes.proofs.unique.BytesMut.TheSendSync as unused
use Rattle.bytes.specs.contracts.unique.BytesMut as BytesMut
use Rattle.tfs_framing.proofs.progress.Progress.TheSendSync as progress
use Rattle.tfs_framing.specs.contracts.decoder.Fed as Fed
use Rattle.tfs_framing.specs.contracts.decoder.RequestDecoder.TheInside as inside
use Rattle.tfs_framing.specs.contracts.decoder.RequestDecoder as RequestDecoder

fed_send : IsSend Fed.the_field.row
fed_send = search sendable depth 20

row_send : IsSend (BytesMut.the_row Global.the_row GlobalAllocator.ghosts)
row_send = unused.the_send _ _ heap.the_send heap.the_sync frees

unused_send : IsSend (BytesMut.the_field Global.the_row GlobalAllocator.ghosts).row
unused_send = search (sendable, row_send) depth 20

inside_send : IsSend inside.the_row
inside_send =
    recorded_send inside.the_field.row _ _ inside.the_type.to_one
    (struct_send (shape inside.the_type)
    (progress.the_field_send, (unused_send, (search sendable, (search sendable, (fed_send, tt))))))

pub decoder_send : IsSend RequestDecoder.the_row
decoder_send = search (sendable, inside_send) depth 20
