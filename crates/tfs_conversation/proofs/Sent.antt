-- A paused conversation may move to another thread.
use denote.Param.Send.{IsSend, recorded_send, struct_send, sendable}
use denote.Struct.Declared.{shape}
use Rattle.std.proofs.Crossing.{crosses}
use Rattle.tfs_framing.specs.contracts.decoder.RequestDecoder as RequestDecoder
use Rattle.tfs_framing.proofs.Sent.{decoder_send}
use Rattle.tfs_conversation.specs.contracts.input.Input as Input
use Rattle.tfs_conversation.specs.contracts.input.Input.TheInside as input_inside
use Rattle.tfs_conversation.specs.contracts.resumed.PausedConversation as PausedConversation
use Rattle.tfs_conversation.specs.contracts.resumed.PausedConversation.TheInside as inside

decoder_field : IsSend RequestDecoder.the_field.row
decoder_field = search (sendable, decoder_send) depth 20

input_send : IsSend input_inside.the_row
input_send =
    recorded_send input_inside.the_field.row _ _ input_inside.the_type.to_one
    (struct_send (shape input_inside.the_type) (decoder_field, (search (sendable, crosses) depth 20, tt)))

input_field : IsSend Input.the_field.row
input_field = search (sendable, input_send) depth 20

inside_send : IsSend inside.the_row
inside_send =
    recorded_send inside.the_field.row _ _ inside.the_type.to_one
    (struct_send (shape inside.the_type) (input_field, (search sendable depth 20, tt)))

pub paused_send : IsSend PausedConversation.the_row
paused_send = search (sendable, inside_send) depth 20
