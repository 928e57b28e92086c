-- Each iteration reads the text up to the next bracket, and the key there.
use Rattle.std.proofs.Common.{◌++◌, Ok, sym, ap, rules, refl, arith, length-append, eq-eqb}
use Rattle.std.proofs.lemmas.Bool.Decides.{Decides-eqb}
use Rattle.std.proofs.lemmas.Result.{err_from_is_err_and}
use Rattle.tfs_addr.proofs.PieceLemmas.{HasRead-front, HasRead-key, HasRead-short}
use Rattle.tfs_addr.proofs.ReadingLemmas.{nothing_read, FaultOf-from_read, IsStripped-at_end}
use Rattle.tfs_addr.proofs.stripping.bare_len.Goals as goal

pub returns-then-is_empty-clause-ok : goal.returns-then-is_empty-clause-ok
returns-then-is_empty-clause-ok c =
    let read = c.loop-key.invariant.1 in
    let cut = c.split_at_bracket.ensures in
    let front = HasRead-front _ _ _ _ _ read.1 cut.texts.0 cut.front cut.whole in (
      read.0 ++ c.split_at_bracket.result.0.now,
      IsStripped-at_end _ _ _ _ c.utf8.text front ((Decides-eqb _ 0).0 (sym c.if-is_empty.ensures)) refl,
      omega (arith, read.2, length-append read.0 c.split_at_bracket.result.0.now),
    )

pub overflow_add-len : goal.overflow_add-len
overflow_add-len c =
    let read = c.loop-key.invariant.1 in
    let cut = c.split_at_bracket.ensures in
    let front = HasRead-front _ _ _ _ _ read.1 cut.texts.0 cut.front cut.whole in
    omega (arith, read.2, length-append read.0 c.split_at_bracket.result.0.now, HasRead-short _ _ _ c.utf8.text front)

pub returns-in_err-rest-clause-err : goal.returns-in_err-rest-clause-err
returns-in_err-rest-clause-err c =
    let read = c.loop-key.invariant.1 in
    let cut = c.split_at_bracket.ensures in
    let front = HasRead-front _ _ _ _ _ read.1 cut.texts.0 cut.front cut.whole in
    let fault = FaultOf-from_read _ _ _ c.in_err-rest.field-0.0 c.utf8.text front c.in_err-rest.ensures.err c.in_err-rest.ensures.fault in
    let p = err_from_is_err_and c.from_residual.result c.from_residual.ensures.1 in
    rw (p.1, p.2) fault

pub returns-then-is_empty-clause-empty : goal.returns-then-is_empty-clause-empty
returns-then-is_empty-clause-empty c = λ e.
    let read = c.loop-key.invariant.1 in
    let cut = c.split_at_bracket.ensures in
    let none = nothing_read _ _ _ _ _ e read.1 cut.texts.0 cut.texts.1 cut.whole in
    ap Ok (omega (arith, read.2, none.0, none.1))

pub returns-in_err-rest-clause-empty : goal.returns-in_err-rest-clause-empty
returns-in_err-rest-clause-empty c = λ e.
    let read = c.loop-key.invariant.1 in
    let cut = c.split_at_bracket.ensures in
    let none = nothing_read _ _ _ _ _ e read.1 cut.texts.0 cut.texts.1 cut.whole in
    let some = eq-eqb _ 0 none.2 in
    absurd (cc (some, c.if-is_empty.ensures))

pub loop-key-preserved : goal.loop-key-preserved
loop-key-preserved c =
    let read = c.loop-key.invariant.1 in
    let cut = c.split_at_bracket.ensures in
    let front = HasRead-front _ _ _ _ _ read.1 cut.texts.0 cut.front cut.whole in (
      search rules,
      (
        read.0 ++ c.split_at_bracket.result.0.now,
        HasRead-key _ _ _ _ front c.in_ok-rest.ensures.ok,
        omega (arith, read.2, length-append read.0 c.split_at_bracket.result.0.now),
      ),
    )
