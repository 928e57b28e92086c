-- The replies to the messages of the bytes are their output.
use Rattle.tfs_conversation.proofs.ExistenceLemmas.{output_some}
use Rattle.tfs_conversation.proofs.laws.bytes_have_an_output.Goals as goal

pub returns : goal.returns
returns c = record {
  some = output_some c.answers_of_the_model_are_undisturbed.ensures.fault c.answers_of_the_model_are_undisturbed.ensures.memory
      c.what_becomes_of_a_request_is_one_thing.ensures.each c.what_bytes_begin_with_is_one_thing_and_stays.ensures.each;
}
