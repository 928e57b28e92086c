-- The cell of the written row is set, and every other cell is unchanged.
use Rattle.std.proofs.Common.{◌+◌, ◌*◌, ◌-◌, ◌||◌, ◌&&◌, eqb, length, ap, ap₂, sym, ◌∙◌, inl, inr, arith}
use Rattle.std.proofs.lemmas.Bool.{cases_eq, eq-eqb, ne_eqb}
use borrow.Rule.Slice.PartMut.{put_mid}
use Rattle.tfs_planes.specs.Plane.{row_words, cell_at}
use Rattle.tfs_planes.specs.Row.{bit_at_word}
use Rattle.tfs_planes.proofs.PlaneLemmas.{row_slice, length-row_words, row_put, row_put_other}
use Rattle.tfs_planes.proofs.cells.set_cell.Goals as goal

pub returns : goal.returns
unfolding cell_at
returns c = λ a b.
    let s = c.args.stride in
    let words = c.args.words.now in
    let i = c.args.i in
    let j = c.args.j in
    let row = c.set_bit.new.words in
    let wide = c.set_bit.auto.words ∙ ap length (row_slice s i words) ∙ length-row_words s i words c.requires.row in
    elim (cases_eq a i) [
      | inl same ↦
          ap (λ n. bit_at_word (row_words s (put_mid (i * s) (i * s + s - i * s) words row) n) b) same
          ∙ ap (λ r. bit_at_word r b) (row_put s i (i * s + s - i * s) words row (omega arith) c.requires.row wide)
          ∙ c.set_bit.ensures b
          ∙ ap₂ (λ t r. (t && eqb b j) || bit_at_word r b) (sym (eq-eqb a i same)) (row_slice s i words ∙ ap (row_words s words) (sym same))
      | inr other ↦
          ap (λ r. bit_at_word r b) (row_put_other s i (i * s + s - i * s) a words row (omega arith) c.requires.row wide other)
          ∙ ap (λ t. (t && eqb b j) || bit_at_word (row_words s words a) b) (sym (ne_eqb a i other))
    ]
