-- Both statements follow message by message from the framing of the bytes left.
use Rattle.tfs_conversation.proofs.MessagesLemmas.{messages_once, messages_some}
use Rattle.tfs_conversation.proofs.laws.bytes_have_one_list_of_messages.Goals as goal

pub returns-clause-some : goal.returns-clause-some
returns-clause-some c = messages_some c.what_bytes_begin_with_is_one_thing_and_stays.ensures.each

pub returns-clause-once : goal.returns-clause-once
returns-clause-once c = messages_once c.what_bytes_begin_with_is_one_thing_and_stays.ensures.once
