-- Each iteration reads the text up to the next bracket, and the key there.
use Rattle.std.proofs.Common.{sym, ◌∙◌, rules, arith, eq-eqb}
use Rattle.std.proofs.lemmas.Bool.{false≢true}
use Rattle.std.proofs.lemmas.Bool.Decides.{Decides-eqb}
use Rattle.std.proofs.lemmas.Result.{err_from_is_err_and}
use Rattle.tfs_addr.proofs.PieceLemmas.{HasRead-front, HasRead-key}
use Rattle.tfs_addr.proofs.ReadingLemmas.{nothing_read, FaultOf-from_read, IsStripped-at_end}
use Rattle.tfs_addr.proofs.stripping.bare_text.Goals as goal

pub returns-then-is_empty-clause-ok : goal.returns-then-is_empty-clause-ok
returns-then-is_empty-clause-ok c =
    let cut = c.split_at_bracket.ensures in
    let front = HasRead-front _ _ _ _ _ c.loop-bare.invariant.1 cut.texts.0 cut.front cut.whole in
    let none = (Decides-eqb _ 0).0 (sym c.if-is_empty.ensures) in
    IsStripped-at_end _ _ _ _ c.utf8.text front none (c.in_ok-shrink_to_fit.ensures.kept ∙ c.in_ok-keep.ensures.bytes)

pub returns-in_err-rest-clause-err : goal.returns-in_err-rest-clause-err
returns-in_err-rest-clause-err c =
    let cut = c.split_at_bracket.ensures in
    let front = HasRead-front _ _ _ _ _ c.loop-bare.invariant.1 cut.texts.0 cut.front cut.whole in
    let fault = FaultOf-from_read _ _ _ c.in_err-rest.field-0.0 c.utf8.text front c.in_err-rest.ensures.err c.in_err-rest.ensures.fault in
    let p = err_from_is_err_and c.from_residual-in_err-rest.result c.from_residual-in_err-rest.ensures.1 in
    rw (p.1, p.2) (λ _. fault)

pub loop-bare-preserved : goal.loop-bare-preserved
loop-bare-preserved c =
    let cut = c.split_at_bracket.ensures in
    let front = HasRead-front _ _ _ _ _ c.loop-bare.invariant.1 cut.texts.0 cut.front cut.whole in (
      search rules,
      rw c.in_ok-keep.ensures.bytes (HasRead-key _ _ _ _ front c.in_ok-rest.ensures.ok),
      λ e.
          let none = nothing_read _ _ _ _ _ e c.loop-bare.invariant.1 cut.texts.0 cut.texts.1 cut.whole in
          omega (arith, c.in_ok-keep.ensures.len, none.1, c.loop-bare.invariant.2 e),
    )

pub returns-in_err-keep-clause-empty : goal.returns-in_err-keep-clause-empty
returns-in_err-keep-clause-empty c = λ e _.
    let cut = c.split_at_bracket.ensures in
    let none = nothing_read _ _ _ _ _ e c.loop-bare.invariant.1 cut.texts.0 cut.texts.1 cut.whole in
    absurd (omega (arith, c.in_err-keep.ensures.full, none.1, c.loop-bare.invariant.2 e))

pub returns-in_err-shrink_to_fit-clause-empty : goal.returns-in_err-shrink_to_fit-clause-empty
returns-in_err-shrink_to_fit-clause-empty c = λ e _.
    let cut = c.split_at_bracket.ensures in
    let none = nothing_read _ _ _ _ _ e c.loop-bare.invariant.1 cut.texts.0 cut.texts.1 cut.whole in
    absurd (false≢true (c.in_err-shrink_to_fit.ensures.empty (omega (arith, c.in_ok-keep.ensures.len, none.1, c.loop-bare.invariant.2 e))))

pub returns-in_err-rest-clause-empty : goal.returns-in_err-rest-clause-empty
returns-in_err-rest-clause-empty c = λ e _.
    let cut = c.split_at_bracket.ensures in
    let none = nothing_read _ _ _ _ _ e c.loop-bare.invariant.1 cut.texts.0 cut.texts.1 cut.whole in
    let some = eq-eqb _ 0 none.2 in
    absurd (cc (some, c.if-is_empty.ensures))
