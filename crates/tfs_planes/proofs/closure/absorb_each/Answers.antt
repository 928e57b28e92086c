-- Each step handles the next row, and at the end all rows are done.
use Rattle.std.proofs.Common.{◌+◌, ◌*◌, ap, sym, ◌∙◌, length, inl, inr, arith, ◌≤◌}
use Rattle.std.proofs.lemmas.Bool.{cases_eq, cases_lt}
use Rattle.std.proofs.Math.Nat.{mul-le-mul_right}
use Rattle.tfs_planes.specs.Plane.{row_words, row_through}
use Rattle.tfs_planes.proofs.PlaneLemmas.{row_fits, row_slice, length-row_words, row_put, row_put_other, row_words_past}
use Rattle.tfs_planes.proofs.RoundLemmas.{row_through_nil}
use Rattle.tfs_planes.proofs.closure.absorb_each.Goals as goal

pub loop-i-preserved : goal.loop-i-preserved
loop-i-preserved c =
    let other = c.args.other.now in
    let s = length other in
    let rows = c.loop-i.rows in
    let i = c.loop-i.i in
    let row = c.absorb.new.row in
    let inv = c.loop-i.invariant in
    let fits : i * s + s ≤ length rows = omega (arith, row_fits i c.args.count s (omega arith)) in
    let wide = c.absorb.auto.row ∙ ap length (row_slice s i rows) ∙ length-row_words s i rows fits in
    record {
      done = λ j h. elim (cases_eq j i) [
        | inl same ↦
            ap (row_words s _) same ∙ row_put s i _ rows row (omega arith) fits wide ∙ c.absorb.ensures
            ∙ ap (row_through other c.args.column) (row_slice s i rows ∙ inv.rest i (omega arith) ∙ ap (row_words s c.args.rows.now) (sym same))
        | inr else ↦ row_put_other s i _ j rows row (omega arith) fits wide else ∙ inv.done j (omega arith)
      ];
      rest = λ j h. row_put_other s i _ j rows row (omega arith) fits wide (λ same. omega arith) ∙ inv.rest j (omega arith);
    }

pub returns : goal.returns
returns c = λ i.
    let other = c.args.other.now in
    let s = length other in
    elim (cases_lt i c.args.count) [
      | inl below ↦ c.loop-i.invariant.done i (omega arith)
      | inr past ↦
          let none = row_words_past s i c.args.rows.now (omega (arith, mul-le-mul_right s past)) in
          c.loop-i.invariant.rest i (omega arith) ∙ none ∙ sym (row_through_nil other c.args.column) ∙ ap (row_through other c.args.column) (sym none)
    ]
