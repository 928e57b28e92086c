-- The kept text spells the document.
use Rattle.std.proofs.Common.{◌∙◌, ap, sym, subst, List, ℕ}
use Rattle.tfs_state.specs.Document.{Document}
use Rattle.tfs_state.specs.StateText.{SpellsDocument}
use Rattle.tfs_state.proofs.StateTextLemmas.{kept_spells, kept_document}
use Rattle.tfs_state.proofs.doc.Doc.bytes.Goals as goal

pub returns-clause-value : goal.returns-clause-value
returns-clause-value c = c.as_slice.ensures.value
    ∙ ap (λ (d : Document). d.bytes) (sym (kept_document c.self.inside.bytes.items c.self.inside.content c.self.invariant) ∙ c.self.view_is)

pub returns-clause-spelled : goal.returns-clause-spelled
returns-clause-spelled c =
    let spells = subst (SpellsDocument c.self.inside.bytes.items) c.self.view_is (kept_spells c.self.inside.bytes.items c.self.inside.content
    c.self.invariant) in
    subst (λ (bytes : List ℕ). SpellsDocument bytes c.args.self.now) (sym spells.kept) spells
