-- A field that was passed doesn't list `close`.
use Rattle.std.proofs.Common.{sym, refl, ◌∙◌, ap}
use Rattle.std.specs.List.{list_any}
use Rattle.tfs_framing.specs.Connection.{lists_close}
use Rattle.tfs_framing.proofs.LengthLemmas.{value_found, value_absent, within_rest}
use Rattle.tfs_framing.proofs.fields.has_closing_field.Goals.{else-is_word-via-then-is_word+else-lists_close}
use Rattle.tfs_framing.proofs.fields.has_closing_field.Goals.{else-is_word-via-else-is_word}
use Rattle.tfs_framing.proofs.fields.has_closing_field.Goals as goal

pub loop-field-preserved : goal.loop-field-preserved
loop-field-preserved c =
    let split = c.in-Some.ensures.cases.0 in
    record {
      within = within_rest _ _ _ _ split c.loop-field.invariant.within;
      same = c.loop-field.invariant.same ∙ (elim c.else-is_word.branch [
        | else-is_word-via-then-is_word+else-lists_close w ↦ ap (λ t. list_any lists_close t)
            (value_found _ _ _ _ _ _ c.in-Some.field.now split c.of.ensures w.of-then-is_word.ensures (sym w.if-is_word.ensures))
            ∙ rw (sym w.if-lists_close.ensures) refl
        | else-is_word-via-else-is_word w ↦ ap (λ t. list_any lists_close t)
            (value_absent _ _ _ _ _ c.in-Some.field.now split c.of.ensures (sym w.if-is_word.ensures))
      ]);
    }
