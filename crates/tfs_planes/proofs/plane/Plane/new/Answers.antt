-- The relation of a plane of zeros is empty.
use Rattle.std.proofs.Common.{ℕ, ◌*◌, length, sym, ap, subst, ◌∙◌}
use Rattle.std.proofs.lemmas.List.{length-replicate}
use Rattle.tfs_planes.specs.Plane.{relation_of, row_words}
use Rattle.tfs_planes.specs.Row.{IsClearFrom, row_length}
use Rattle.tfs_planes.proofs.RelationLemmas.{zeros_clear, empty-plane}
use Rattle.tfs_planes.proofs.plane.Plane.new.Goals as goal

pub invariant_of-result : goal.invariant_of-result
invariant_of-result c =
    let n = c.args.size in
    let zeros = c.in_ok-zeros.ensures in
    record {
      within = c.requires.small;
      long = c.in_ok-zeros.field-0.ok.0 ∙ ap length zeros ∙ length-replicate {A = ℕ} (n * c.row_length.result) 0 ∙ ap (λ s. n * s) c.row_length.ensures;
      clear = λ i. subst (λ words. IsClearFrom n (row_words (row_length n) words i)) (sym zeros) (zeros_clear (row_length n) (n * c.row_length.result) n i);
    }

pub returns : goal.returns
returns c = record {
  empty =
      let n = c.args.size in
      let zeros = c.in_ok-zeros.ensures in
      ap (relation_of n) zeros ∙ ap (λ pairs. record { size = n; pairs = pairs })
      (empty-plane n (n * c.row_length.result) (ap (λ s. n * s) c.row_length.ensures));
}
