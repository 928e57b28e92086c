-- The set of a row of zeros is empty.
use Rattle.std.proofs.Common.{length, sym, ap, subst, ◌∙◌}
use Rattle.std.proofs.lemmas.List.{with_items_is}
use Rattle.std.specs.FinSet.{empty}
use Rattle.tfs_planes.specs.Row.{IsClearFrom, NumberSet, number_set}
use Rattle.tfs_planes.proofs.BitLemmas.{bit_at_word-zeros, empty-row}
use Rattle.tfs_planes.proofs.row.Row.clear.Goals as goal

pub invariant_of-self : goal.invariant_of-self
invariant_of-self c =
    let row = c.self.inside in
    let written = with_items_is row.words c.clear_words.new.words (c.clear_words.auto.words ∙ c.deref_mut.ensures.len) in
    record {
      within = c.self.invariant.within;
      long = c.self.invariant.long;
      clear = subst (IsClearFrom row.size) (sym (written ∙ c.clear_words.ensures)) (λ i _. bit_at_word-zeros (length c.deref_mut.result.now) i);
    }

pub returns : goal.returns
returns c = record {
  empty =
      let row = c.self.inside in
      let written = with_items_is row.words c.clear_words.new.words (c.clear_words.auto.words ∙ c.deref_mut.ensures.len) in
      ap (number_set row.size) (written ∙ c.clear_words.ensures)
      ∙ ap (λ set. record { size = row.size; members = set }) (empty-row row.size (length c.deref_mut.result.now))
      ∙ ap (λ (s : NumberSet). record { size = s.size; members = empty }) c.self.view_is;
}
