-- The parts that were read represent the text, which spells its document.
use Rattle.tfs_state.proofs.StateTextLemmas.{kept_spells}
use Rattle.tfs_state.proofs.doc.Doc.read_over.Goals as goal

pub returns-clause-ok : goal.returns-clause-ok
returns-clause-ok c = kept_spells c.args.bytes.items c.in_ok-content.content (rw (← c.as_slice.ensures.value) c.in_ok-content.ensures.ok)
