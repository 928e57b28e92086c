-- Combining the words adds their numbers to the set.
use Rattle.std.proofs.Common.{◌||◌, bit_or, refl, sym, ap, subst, ◌∙◌, arith}
use Rattle.std.specs.FinSet.{contains}
use Rattle.tfs_planes.specs.Row.{IsClearFrom, NumberSet, number_set, bit_at_word, row_length}
use Rattle.tfs_planes.proofs.BitLemmas.{bit_at_word-union, clear_union, contains-row}
use Rattle.tfs_planes.proofs.RowLemmas.{combined_items}
use Rattle.tfs_planes.proofs.row.Row.union_with_words.Goals as goal

pub invariant_of-self : goal.invariant_of-self
invariant_of-self c =
    let row = c.self.inside in
    let words = c.args.words.now in
    let size = ap (λ (s : NumberSet). s.size) c.self.view_is in
    let long = sym row.words.ok.0 ∙ c.self.invariant.long ∙ ap row_length size ∙ sym c.requires.length in
    let made = combined_items bit_or row.words _ _ words c.union_words.new.words c.deref_mut.ensures.value c.deref_mut.ensures.len refl
    c.union_words.ensures.union long in
    let clear = clear_union row.size row.words.items words long c.self.invariant.clear (λ i past. c.requires.clear i (omega arith)) in
    record { within = c.self.invariant.within; long = c.self.invariant.long; clear = subst (IsClearFrom row.size) (sym made) clear }

pub returns-clause-members : goal.returns-clause-members
returns-clause-members c = λ j.
    let row = c.self.inside in
    let words = c.args.words.now in
    let size = ap (λ (s : NumberSet). s.size) c.self.view_is in
    let long = sym row.words.ok.0 ∙ c.self.invariant.long ∙ ap row_length size ∙ sym c.requires.length in
    let made = combined_items bit_or row.words _ _ words c.union_words.new.words c.deref_mut.ensures.value c.deref_mut.ensures.len refl
    c.union_words.ensures.union long in
    let clear = clear_union row.size row.words.items words long c.self.invariant.clear (λ i past. c.requires.clear i (omega arith)) in
    ap (λ zs. contains (number_set row.size zs).members j) made
    ∙ contains-row row.size _ clear j
    ∙ bit_at_word-union row.words.items words j long
    ∙ ap (λ b. b || bit_at_word words j) (sym (contains-row row.size row.words.items c.self.invariant.clear j)
    ∙ ap (λ (s : NumberSet). contains s.members j) c.self.view_is)
