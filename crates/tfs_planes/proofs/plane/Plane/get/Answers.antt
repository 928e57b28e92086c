-- A pair is related if its bit is set.
use Rattle.std.proofs.Common.{◌<◌, ◌*◌, sym, ap, ap₂, subst, ◌∙◌, arith}
use Rattle.std.specs.FinSet.{contains}
use Rattle.tfs_planes.specs.Plane.{cell_at}
use Rattle.tfs_planes.specs.Relation.{Relation}
use Rattle.tfs_planes.proofs.PlaneLemmas.{row_fits}
use Rattle.tfs_planes.proofs.RelationLemmas.{contains-plane}
use Rattle.tfs_planes.proofs.plane.Plane.get.Goals as goal

pub cell-requires-clause-row : goal.cell-requires-clause-row
cell-requires-clause-row c =
    let plane = c.self.inside in
    let within : c.args.i < plane.size = subst (λ k. c.args.i < k) (sym (ap (λ (r : Relation). r.size) c.self.view_is)) c.requires.row in
    let wide = ap (λ s. plane.size * s) c.row_length.ensures in
    omega (arith, row_fits c.args.i plane.size c.row_length.result within, wide, c.self.invariant.long, c.deref.ensures.len)

pub returns : goal.returns
returns c = record {
  related =
      let plane = c.self.inside in
      let n = plane.size in
      let long = sym plane.words.ok.0 ∙ c.self.invariant.long in
      c.cell.ensures
      ∙ ap₂ (λ s words. cell_at s words c.args.i c.args.j) c.row_length.ensures c.deref.ensures.value
      ∙ sym (contains-plane n plane.words.items long c.self.invariant.clear c.args.i c.args.j)
      ∙ ap (λ (r : Relation). contains r.pairs (c.args.i, c.args.j)) c.self.view_is;
}
