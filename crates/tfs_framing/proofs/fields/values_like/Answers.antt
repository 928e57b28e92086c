-- A field adds its value if it has the name, and nothing otherwise.
use Rattle.std.proofs.Common.{sym, ◌∙◌, ap, ◌++◌, option_to_list, option_copied}
use Rattle.tfs_framing.proofs.LengthLemmas.{first_value, value_absent, within_rest}
use Rattle.tfs_framing.proofs.fields.values_like.Goals as goal

pub loop-field-preserved-else-is_some : goal.loop-field-preserved-else-is_some
loop-field-preserved-else-is_some c =
    let split = c.in-Some.ensures.cases.0 in
    record {
      within = within_rest _ _ _ _ split c.loop-field.invariant.within;
      values = first_value _ _ _ _ _ c.loop-field.found _ _ c.in-Some.field.now split c.of.ensures c.of-then-is_like.ensures
          c.if-is_like.ensures c.if-is_some.ensures c.loop-field.invariant.values;
    }

pub loop-field-preserved : goal.loop-field-preserved
loop-field-preserved c =
    let split = c.in-Some.ensures.cases.0 in
    record {
      within = within_rest _ _ _ _ split c.loop-field.invariant.within;
      values = c.loop-field.invariant.values
          ∙ ap (λ t. option_to_list (option_copied c.loop-field.found) ++ t)
          (value_absent _ _ _ _ _ c.in-Some.field.now split c.of.ensures (sym c.if-is_like.ensures));
    }
