-- The relation gains the pair whose bit is set, and is otherwise unchanged.
use Rattle.std.proofs.Common.{◌<◌, ◌*◌, ◌||◌, ◌&&◌, eqb, sym, ap, ap₂, subst, ◌∙◌, arith, ℕ}
use Rattle.std.proofs.lemmas.List.{with_items_is}
use Rattle.std.specs.FinSet.{insert}
use Rattle.tfs_planes.specs.Plane.{cell_at, relation_of, row_words}
use Rattle.tfs_planes.specs.Relation.{Relation}
use Rattle.tfs_planes.specs.Row.{row_length, IsClearFrom}
use Rattle.tfs_planes.proofs.PlaneLemmas.{row_fits}
use Rattle.tfs_planes.proofs.RelationLemmas.{clear_with_cell, insert-plane}
use Rattle.tfs_planes.proofs.plane.Plane.set.Goals as goal

pub set_cell-requires-clause-row : goal.set_cell-requires-clause-row
set_cell-requires-clause-row c =
    let plane = c.self.inside in
    let within : c.args.i < plane.size = subst (λ k. c.args.i < k) (sym (ap (λ (r : Relation). r.size) c.self.view_is)) c.requires.row in
    let wide = ap (λ s. plane.size * s) c.row_length.ensures in
    omega (arith, row_fits c.args.i plane.size c.row_length.result within, wide, c.self.invariant.long, c.deref_mut.ensures.len)

pub invariant_of-self : goal.invariant_of-self
invariant_of-self c =
    let plane = c.self.inside in
    let n = plane.size in
    let i = c.args.i in
    let j = c.args.j in
    let now = c.set_cell.new.words in
    let within : j < n = subst (λ k. j < k) (sym (ap (λ (r : Relation). r.size) c.self.view_is)) c.requires.column in
    let written = with_items_is plane.words now (c.set_cell.auto.words ∙ c.deref_mut.ensures.len) in
    let cells = λ (a b : ℕ). ap (λ s. cell_at s now a b) (sym c.row_length.ensures) ∙ c.set_cell.ensures a b
    ∙ ap₂ (λ s words. (eqb a i && eqb b j) || cell_at s words a b) c.row_length.ensures c.deref_mut.ensures.value in
    record {
      within = c.self.invariant.within;
      long = c.self.invariant.long;
      clear = λ a. subst (λ words. IsClearFrom n (row_words (row_length n) words a)) (sym written)
          (clear_with_cell (row_length n) n i j plane.words.items now c.self.invariant.clear within cells a);
    }

pub returns : goal.returns
returns c = record {
  inserted =
      let plane = c.self.inside in
      let n = plane.size in
      let i = c.args.i in
      let j = c.args.j in
      let now = c.set_cell.new.words in
      let within : j < n = subst (λ k. j < k) (sym (ap (λ (r : Relation). r.size) c.self.view_is)) c.requires.column in
      let written = with_items_is plane.words now (c.set_cell.auto.words ∙ c.deref_mut.ensures.len) in
      let cells = λ (a b : ℕ). ap (λ s. cell_at s now a b) (sym c.row_length.ensures) ∙ c.set_cell.ensures a b
      ∙ ap₂ (λ s words. (eqb a i && eqb b j) || cell_at s words a b) c.row_length.ensures c.deref_mut.ensures.value in
      let long = sym plane.words.ok.0 ∙ c.self.invariant.long in
      let too = c.set_cell.auto.words ∙ c.deref_mut.ensures.len ∙ c.self.invariant.long in
      ap (relation_of n) written
      ∙ ap (λ pairs. record { size = n; pairs = pairs }) (insert-plane n i j plane.words.items now long too c.self.invariant.clear within cells)
      ∙ ap (λ (r : Relation). record { size = r.size; pairs = insert r.pairs (i, j) }) c.self.view_is;
}
