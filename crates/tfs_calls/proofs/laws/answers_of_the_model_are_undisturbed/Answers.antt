-- Each refusal of the model differs from `out_of_memory` and `journal_fault`.
use Rattle.tfs_calls.proofs.AnswerLemmas.{answers_told}
use Rattle.tfs_calls.proofs.laws.answers_of_the_model_are_undisturbed.Goals as goal

pub returns-clause-memory : goal.returns-clause-memory
returns-clause-memory c m call =
    (answers_told c.bytes_spell_a_document_or_have_a_fault.ensures.memory c.bytes_spell_lock_info_or_have_a_fault.ensures.memory m call).0

pub returns-clause-fault : goal.returns-clause-fault
returns-clause-fault c m call =
    (answers_told c.bytes_spell_a_document_or_have_a_fault.ensures.memory c.bytes_spell_lock_info_or_have_a_fault.ensures.memory m call).1
