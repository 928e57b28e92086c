-- All three statements follow from the messages of the bytes, which are unique.
use Rattle.tfs_conversation.proofs.OutputLemmas.{one_output}
use Rattle.tfs_conversation.proofs.laws.bytes_have_one_output.Goals as goal

pub returns-clause-model : goal.returns-clause-model
returns-clause-model c old new start other bytes text also ended end is a b =
    let framed = c.what_bytes_begin_with_is_one_thing_and_stays.ensures.once in
    let routed = c.what_becomes_of_a_request_is_one_thing.ensures.once in
    (one_output routed framed old new start other bytes text also ended end is a b).0

pub returns-clause-text : goal.returns-clause-text
returns-clause-text c old new start other bytes text also ended end is a b =
    let framed = c.what_bytes_begin_with_is_one_thing_and_stays.ensures.once in
    let routed = c.what_becomes_of_a_request_is_one_thing.ensures.once in
    (one_output routed framed old new start other bytes text also ended end is a b).1

pub returns-clause-ended : goal.returns-clause-ended
returns-clause-ended c old new start other bytes text also ended end is a b =
    let framed = c.what_bytes_begin_with_is_one_thing_and_stays.ensures.once in
    let routed = c.what_becomes_of_a_request_is_one_thing.ensures.once in
    (one_output routed framed old new start other bytes text also ended end is a b).2
