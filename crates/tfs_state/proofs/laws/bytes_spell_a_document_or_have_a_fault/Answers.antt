-- Bytes spell a document if and only if it is their document, and then they have no fault.
use Rattle.tfs_state.proofs.StateTextLemmas.{spelled_faultless, faultless_spelled, given_spelled, spelled_computed}
use Rattle.tfs_state.proofs.MemoryLemmas.{fault_of_text}
use Rattle.tfs_state.proofs.laws.bytes_spell_a_document_or_have_a_fault.Goals as goal

pub returns-clause-spelled : goal.returns-clause-spelled
returns-clause-spelled c = spelled_faultless

pub returns-clause-faultless : goal.returns-clause-faultless
returns-clause-faultless c = faultless_spelled

pub returns-clause-once : goal.returns-clause-once
returns-clause-once c bytes d e h k = let one = spelled_computed bytes d h in let other = spelled_computed bytes e k in cc

pub returns-clause-given : goal.returns-clause-given
returns-clause-given c = given_spelled

pub returns-clause-computed : goal.returns-clause-computed
returns-clause-computed c = spelled_computed

pub returns-clause-memory : goal.returns-clause-memory
returns-clause-memory c = fault_of_text
