-- A quote ends the units, and a backslash escapes what follows it.
use Rattle.std.proofs.Common.{sym, ◌∙◌}
use Rattle.tfs_addr.proofs.EndLemmas.{units_rest-empty, units_rest-at_quote, units_rest-at_backslash, units_rest-at_end}
use Rattle.tfs_addr.proofs.stripping.after_units.Goals as goal

pub returns-in_err-mark : goal.returns-in_err-mark
returns-in_err-mark c =
    let none = units_rest-empty _ c.in_err-mark.ensures.cases in
    rw c.from_residual.ensures (sym (c.loop-mark.invariant ∙ c.from_mark.ensures.same ∙ none))

pub returns-then-mark-eq34 : goal.returns-then-mark-eq34
returns-then-mark-eq34 c =
    sym (c.loop-mark.invariant ∙ c.from_mark.ensures.same ∙ units_rest-at_quote _ _ _ c.in_ok-mark.ensures.cases.0 c.if-mark-eq34.true)

pub returns-in_err-rest : goal.returns-in_err-rest
returns-in_err-rest c =
    let none = units_rest-at_end _ _ _ c.in_ok-mark.ensures.cases.0 c.from_mark.ensures.mark c.if-mark-eq34.false c.in_err-rest.ensures.cases in
    rw c.from_residual-in_err-rest.ensures (sym (c.loop-mark.invariant ∙ c.from_mark.ensures.same ∙ none))

pub loop-mark-preserved : goal.loop-mark-preserved
loop-mark-preserved c =
    c.loop-mark.invariant ∙ c.from_mark.ensures.same
    ∙ units_rest-at_backslash _ _ _ _ _ c.in_ok-mark.ensures.cases.0 c.from_mark.ensures.mark c.if-mark-eq34.false c.in_ok-rest.ensures.cases.0
