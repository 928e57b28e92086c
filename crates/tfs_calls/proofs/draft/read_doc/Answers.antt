-- A text that is no state is refused for its first fault.
use Rattle.tfs_calls.proofs.DraftLemmas.{state_text_refused}
use Rattle.tfs_calls.proofs.draft.read_doc.Goals as goal

pub returns-clause-err : goal.returns-clause-err
returns-clause-err c = state_text_refused _ _ _ c.refusal_of_state_text.ensures c.in-Err.ensures.err
    (c.bytes_spell_a_document_or_have_a_fault.ensures.none_else _)
