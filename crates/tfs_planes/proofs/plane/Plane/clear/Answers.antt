-- The relation of a plane of zeros is empty.
use Rattle.std.proofs.Common.{length, sym, ap, subst, ◌∙◌}
use Rattle.std.proofs.lemmas.List.{with_items_is}
use Rattle.std.specs.FinSet.{empty}
use Rattle.tfs_planes.specs.Plane.{relation_of, row_words}
use Rattle.tfs_planes.specs.Relation.{Relation}
use Rattle.tfs_planes.specs.Row.{IsClearFrom, row_length}
use Rattle.tfs_planes.proofs.RelationLemmas.{zeros_clear, empty-plane}
use Rattle.tfs_planes.proofs.plane.Plane.clear.Goals as goal

pub invariant_of-self : goal.invariant_of-self
invariant_of-self c =
    let plane = c.self.inside in
    let n = plane.size in
    let written = with_items_is plane.words c.clear_words.new.words (c.clear_words.auto.words ∙ c.deref_mut.ensures.len) in
    record {
      within = c.self.invariant.within;
      long = c.self.invariant.long;
      clear = λ i. subst (λ words. IsClearFrom n (row_words (row_length n) words i)) (sym (written ∙ c.clear_words.ensures))
          (zeros_clear (row_length n) (length c.deref_mut.result.now) n i);
    }

pub returns : goal.returns
returns c = record {
  empty =
      let plane = c.self.inside in
      let n = plane.size in
      let written = with_items_is plane.words c.clear_words.new.words (c.clear_words.auto.words ∙ c.deref_mut.ensures.len) in
      ap (relation_of n) (written ∙ c.clear_words.ensures)
      ∙ ap (λ pairs. record { size = n; pairs = pairs }) (empty-plane n (length c.deref_mut.result.now) (c.deref_mut.ensures.len ∙ c.self.invariant.long))
      ∙ ap (λ (r : Relation). record { size = r.size; pairs = empty }) c.self.view_is;
}
