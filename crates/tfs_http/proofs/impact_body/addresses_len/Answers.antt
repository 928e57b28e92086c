-- Each number adds the length of its address, if it has one.
use Rattle.std.proofs.Common.{◌≤◌, ◌+◌, length, drop, get_or, true, arith, sym, ap, subst, ◌∙◌}
use Rattle.tfs_http.specs.Pieces.{addresses_left}
use Rattle.tfs_http.proofs.PieceLemmas.{address_counted, none_counted, number_passed, quote_counted}
use Rattle.tfs_http.proofs.impact_body.addresses_len.Goals.{then-number-len, else-number-len}
use Rattle.tfs_http.proofs.impact_body.addresses_len.Goals as goal

pub loop-number-preserved : goal.loop-number-preserved
loop-number-preserved c =
    let d = c.args.doc.now in
    let k = c.loop-number.number-index in
    let rest = drop (k + 1) c.args.numbers.now in
    let within = c.loop-number-test.true in
    elim c.if-number-len.branch [
      | then-number-len w ↦ (
        address_counted d c.args.numbers.now k c.loop-number.begun _ c.loop-number.total w.address_len-total.result within
            w.address_len-total.ensures.value c.loop-number.invariant.0
            ∙ ap (λ n. n + length (addresses_left d true rest)) (sym w.total-is)
            ∙ ap (λ b. c.if-number-len.total + length (addresses_left d b rest)) (sym w.begun-is),
        omega (arith, w.total-is, w.address_len-total.ensures.limit, c.loop-number.invariant.1),
      )
      | else-number-len w ↦ (
        number_passed d c.args.numbers.now k c.loop-number.begun _ c.loop-number.total within
            (subst (λ n. n ≤ get_or c.args.numbers.now k 0) c.len.ensures.value w.if-number-len.false) c.loop-number.invariant.0
            ∙ ap (λ n. n + length (addresses_left d c.loop-number.begun rest)) (sym w.total-is)
            ∙ ap (λ b. c.if-number-len.total + length (addresses_left d b rest)) (sym w.begun-is),
        omega (arith, w.total-is, c.loop-number.invariant.1),
      )
    ]

pub returns-then-begun-clause-value : goal.returns-then-begun-clause-value
returns-then-begun-clause-value c =
    quote_counted c.args.doc.now c.args.numbers.now c.loop-number.number-index c.loop-number.begun _ c.loop-number.total c.loop-number-test.false
    c.loop-number.invariant.0 c.if-begun.true

pub returns-else-begun-clause-value : goal.returns-else-begun-clause-value
returns-else-begun-clause-value c =
    none_counted c.args.doc.now c.args.numbers.now c.loop-number.number-index c.loop-number.begun _ c.loop-number.total c.loop-number-test.false
    c.loop-number.invariant.0 c.if-begun.false
