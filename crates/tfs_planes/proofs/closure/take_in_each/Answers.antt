-- Each step handles the next row, and at the end all rows are done.
use Rattle.std.proofs.Common.{◌↔◌, ◌+◌, ◌-◌, ◌*◌, ◌≤◌, IsTrue, [], length, ap, sym, subst, ◌∙◌, inl, inr, arith}
use Rattle.std.proofs.Math.Nat.{mul-le-mul_right}
use Rattle.std.proofs.lemmas.Bool.{cases_eq, cases_lt}
use Rattle.tfs_planes.specs.Plane.{row_words, cell_at}
use Rattle.tfs_planes.specs.Rounds.{TakesIn}
use Rattle.tfs_planes.specs.Row.{bit_at_word}
use Rattle.tfs_planes.proofs.PlaneLemmas.{row_fits, row_slice, length-row_words, row_put, row_put_other, row_words_past}
use Rattle.tfs_planes.proofs.TakeLemmas.{took_row, takes_in_nil}
use borrow.Rule.Slice.PartMut.{put_mid}
use Rattle.tfs_planes.proofs.closure.take_in_each.Goals as goal

pub loop-i-preserved : goal.loop-i-preserved
unfolding cell_at
loop-i-preserved c =
    let s = c.args.stride in
    let block = c.args.block.now in
    let width = c.args.width in
    let first = c.args.first in
    let rows = c.loop-i.rows in
    let start = c.args.rows.now in
    let i = c.loop-i.i in
    let row = c.take_in.new.row in
    let inv = c.loop-i.invariant in
    let fits : i * s + s ≤ length rows = omega (arith, row_fits i c.args.count s (omega arith)) in
    let lent = ap length (row_slice s i rows) ∙ length-row_words s i rows fits in
    let wide = c.take_in.auto.row ∙ lent in
    let after = put_mid (i * s) (i * s + s - i * s) rows row in
    record {
      done = λ closed a b h. elim (cases_eq a i) [
        | inl same ↦
            let takes = took_row s _ _ (row_words s start i) row block width first lent (row_slice s i rows ∙ inv.rest i (omega arith)) c.take_in.ensures
            closed b in
            subst (λ r. IsTrue (bit_at_word r b) ↔ TakesIn s (row_words s start a) block width first b)
            (sym (ap (row_words s after) same ∙ row_put s i (i * s + s - i * s) rows row (omega arith) fits wide))
            (subst (λ p. IsTrue (bit_at_word row b) ↔ TakesIn s (row_words s start p) block width first b) (sym same) takes)
        | inr else ↦
            subst (λ r. IsTrue (bit_at_word r b) ↔ TakesIn s (row_words s start a) block width first b)
            (sym (row_put_other s i (i * s + s - i * s) a rows row (omega arith) fits wide else))
            (inv.done closed a b (omega arith))
      ];
      rest = λ a h. row_put_other s i (i * s + s - i * s) a rows row (omega arith) fits wide (λ same. omega arith) ∙ inv.rest a (omega arith);
    }

pub returns : goal.returns
unfolding cell_at
returns c = λ closed i j.
    let s = c.args.stride in
    let block = c.args.block.now in
    let start = c.args.rows.now in
    elim (cases_lt i c.args.count) [
      | inl below ↦ c.loop-i.invariant.done closed i j (omega arith)
      | inr past ↦
          let none = row_words_past s i start (omega (arith, mul-le-mul_right s past)) in
          subst (λ r. IsTrue (bit_at_word r j) ↔ TakesIn s (row_words s start i) block c.args.width c.args.first j)
          (sym (c.loop-i.invariant.rest i (omega arith) ∙ none))
          (subst (λ r. IsTrue (bit_at_word [] j) ↔ TakesIn s r block c.args.width c.args.first j) (sym none) (takes_in_nil s block c.args.width c.args.first j))
    ]
