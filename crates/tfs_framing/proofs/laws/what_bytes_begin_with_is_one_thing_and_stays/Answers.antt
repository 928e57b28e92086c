-- All three statements follow from the lemmas about the result of `take`.
use Rattle.tfs_framing.proofs.FramingLemmas.{framed_once, framed_more}
use Rattle.tfs_framing.proofs.EachMessage.{each_framed}
use Rattle.tfs_framing.proofs.laws.what_bytes_begin_with_is_one_thing_and_stays.Goals as goal

pub returns-clause-each : goal.returns-clause-each
returns-clause-each c = each_framed

pub returns-clause-once : goal.returns-clause-once
returns-clause-once c = framed_once

pub returns-clause-stays : goal.returns-clause-stays
returns-clause-stays c = framed_more
