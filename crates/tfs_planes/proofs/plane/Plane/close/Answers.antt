-- The closed rows are those of a plane, and they relate exactly the numbers that a walk joins.
use Rattle.std.proofs.Common.{◌≡◌, ◌↔◌, IsTrue, sym, subst, ◌∙◌, ℕ, List}
use Rattle.std.proofs.lemmas.List.{with_items_is}
use Rattle.tfs_planes.specs.Plane.{cell_at, relation_of, row_words}
use Rattle.tfs_planes.specs.Relation.{Relates}
use Rattle.tfs_planes.specs.Row.{row_length, IsClearFrom}
use Rattle.tfs_planes.specs.Walk.{Joins}
use Rattle.tfs_planes.proofs.RelationLemmas.{clear_closed, closed-plane}
use Rattle.tfs_planes.proofs.plane.Plane.close.Goals as goal

-- The closure of the rows, stated for the row length of the plane.
walks_of : (s t : ℕ) (lent words now : List ℕ) → s ≡ t → lent ≡ words →
    ((i j : ℕ) → IsTrue (cell_at s now i j) ↔ Joins (λ a b. IsTrue (cell_at s lent a b)) i j) → (i j : ℕ) →
    IsTrue (cell_at t now i j) ↔ Joins (λ a b. IsTrue (cell_at t words a b)) i j
walks_of s t lent words now e f walks i j =
    subst (λ zs. IsTrue (cell_at t now i j) ↔ Joins (λ a b. IsTrue (cell_at t zs a b)) i j) f
    (subst (λ k. IsTrue (cell_at k now i j) ↔ Joins (λ a b. IsTrue (cell_at k lent a b)) i j) e (walks i j))

pub invariant_of-self : goal.invariant_of-self
invariant_of-self c =
    let plane = c.self.inside in
    let n = plane.size in
    let now = c.close_rows.new.words in
    let written = with_items_is plane.words now (c.close_rows.auto.words ∙ c.deref_mut.ensures.len) in
    let walks = walks_of _ (row_length n) _ plane.words.items now c.row_length.ensures c.deref_mut.ensures.value c.close_rows.ensures in
    let long = sym plane.words.ok.0 ∙ c.self.invariant.long in
    record {
      within = c.self.invariant.within;
      long = c.self.invariant.long;
      clear = λ a. subst (λ words. IsClearFrom n (row_words (row_length n) words a)) (sym written)
          (clear_closed (row_length n) n plane.words.items now long c.self.invariant.clear walks a);
    }

pub returns-clause-walks : goal.returns-clause-walks
returns-clause-walks c = λ i j.
    let plane = c.self.inside in
    let n = plane.size in
    let now = c.close_rows.new.words in
    let written = with_items_is plane.words now (c.close_rows.auto.words ∙ c.deref_mut.ensures.len) in
    let walks = walks_of _ (row_length n) _ plane.words.items now c.row_length.ensures c.deref_mut.ensures.value c.close_rows.ensures in
    let long = sym plane.words.ok.0 ∙ c.self.invariant.long in
    let too = c.close_rows.auto.words ∙ c.deref_mut.ensures.len ∙ c.self.invariant.long in
    subst (λ words. Relates (relation_of n words) i j ↔ Joins (Relates c.args.self.now) i j) (sym written)
    (closed-plane n plane.words.items now c.args.self.now c.self.view_is long too c.self.invariant.clear walks i j)
