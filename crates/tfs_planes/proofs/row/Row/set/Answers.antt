-- The set gains the number whose bit is set, and is otherwise unchanged.
use Rattle.std.proofs.Common.{◌||◌, ◌==◌, ◌<◌, ℕ, sym, ap, subst, ◌∙◌}
use Rattle.std.proofs.lemmas.List.{with_items_is}
use Rattle.std.specs.FinSet.{insert}
use Rattle.tfs_planes.specs.Row.{NumberSet, number_set, bit_at_word}
use Rattle.tfs_planes.proofs.BitLemmas.{insert-row}
use Rattle.tfs_planes.proofs.row.Row.set.Goals as goal

pub returns : goal.returns
returns c = record {
  inserted =
      let row = c.self.inside in
      let i = c.args.i in
      let now = c.set_bit.new.words in
      let within : i < row.size = subst (λ k. i < k) (sym (ap (λ (s : NumberSet). s.size) c.self.view_is)) c.requires.within in
      let written = with_items_is row.words now (c.set_bit.auto.words ∙ c.deref_mut.ensures.len) in
      let bits = λ (j : ℕ). c.set_bit.ensures j ∙ ap (λ words. (j == i) || bit_at_word words j) c.deref_mut.ensures.value in
      ap (number_set row.size) written
      ∙ ap (λ set. record { size = row.size; members = set }) (insert-row row.size i row.words.items now c.self.invariant.clear within bits)
      ∙ ap (λ (s : NumberSet). record { size = s.size; members = insert s.members i }) c.self.view_is;
}
