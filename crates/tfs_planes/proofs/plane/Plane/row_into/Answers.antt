-- The row's set has the numbers to which the number is related.
use Rattle.std.proofs.Common.{◌≡◌, ◌<◌, ◌*◌, sym, ap, ap₂, subst, ◌∙◌, arith}
use Rattle.std.specs.FinSet.{contains}
use Rattle.tfs_planes.specs.Plane.{cell_at, row_words}
use Rattle.tfs_planes.specs.Relation.{Relation}
use Rattle.tfs_planes.specs.Row.{NumberSet, bit_at_word, row_length, IsClearFrom}
use Rattle.tfs_planes.proofs.BitLemmas.{contains-row}
use Rattle.tfs_planes.proofs.PlaneLemmas.{row_fits}
use Rattle.tfs_planes.proofs.RelationLemmas.{contains-plane}
use Rattle.tfs_planes.proofs.plane.Plane.row_into.Goals as goal

pub row_at-requires : goal.row_at-requires
row_at-requires c =
    let plane = c.self.inside in
    let within : c.args.i < plane.size = subst (λ k. c.args.i < k) (sym (ap (λ (r : Relation). r.size) c.self.view_is)) c.requires.row in
    let wide = ap (λ s. plane.size * s) c.row_length.ensures in
    omega (arith, row_fits c.args.i plane.size c.row_length.result within, wide, c.self.invariant.long, c.deref.ensures.len)

pub returns-clause-members : goal.returns-clause-members
unfolding cell_at
returns-clause-members c = λ j.
    let plane = c.self.inside in
    let n = plane.size in
    let words = c.row_at.result.now in
    let size = c.args.row.now.size in
    let same : size ≡ n = c.requires.size ∙ sym (ap (λ (r : Relation). r.size) c.self.view_is) in
    let row : words ≡ row_words (row_length n) plane.words.items c.args.i = c.row_at.ensures.row
    ∙ ap₂ (λ s zs. row_words s zs c.args.i) c.row_length.ensures c.deref.ensures.value in
    let clear = subst (IsClearFrom n) (sym row) (c.self.invariant.clear c.args.i) in
    let long = sym plane.words.ok.0 ∙ c.self.invariant.long in
    ap (λ (s : NumberSet). contains s.members j) c.copy_words.ensures
    ∙ contains-row size words (λ k past. clear k (omega arith)) j
    ∙ ap (λ r. bit_at_word r j) row
    ∙ sym (contains-plane n plane.words.items long c.self.invariant.clear c.args.i j)
    ∙ ap (λ (r : Relation). contains r.pairs (c.args.i, j)) c.self.view_is
