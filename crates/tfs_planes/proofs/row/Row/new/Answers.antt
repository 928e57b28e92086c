-- The set of a row of zeros is empty.
use Rattle.std.proofs.Common.{ℕ, length, sym, ap, subst, ◌∙◌}
use Rattle.std.proofs.lemmas.List.{length-replicate}
use Rattle.tfs_planes.specs.Row.{IsClearFrom, number_set}
use Rattle.tfs_planes.proofs.BitLemmas.{bit_at_word-zeros, empty-row}
use Rattle.tfs_planes.proofs.row.Row.new.Goals as goal

pub invariant_of-result : goal.invariant_of-result
invariant_of-result c =
    let zeros = c.in_ok-zeros.ensures in
    record {
      within = c.requires.small;
      long = c.in_ok-zeros.field-0.ok.0 ∙ ap length zeros ∙ length-replicate {A = ℕ} c.row_length.result 0 ∙ c.row_length.ensures;
      clear = subst (IsClearFrom c.args.size) (sym zeros) (λ i _. bit_at_word-zeros c.row_length.result i);
    }

pub returns : goal.returns
returns c = record {
  empty =
      let n = c.args.size in
      let zeros = c.in_ok-zeros.ensures in
      ap (number_set n) zeros ∙ ap (λ set. record { size = n; members = set }) (empty-row n c.row_length.result);
}
