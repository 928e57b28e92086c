-- A number is a member if its bit is set.
use Rattle.std.proofs.Common.{sym, ap, ◌∙◌}
use Rattle.std.specs.FinSet.{contains}
use Rattle.tfs_planes.specs.Row.{NumberSet, bit_at_word}
use Rattle.tfs_planes.proofs.BitLemmas.{contains-row}
use Rattle.tfs_planes.proofs.row.Row.get.Goals as goal

pub returns : goal.returns
returns c = record {
  member =
      let row = c.self.inside in
      let view = c.self.view_is in
      c.bit.ensures ∙ ap (λ words. bit_at_word words c.args.i) c.deref.ensures.value
      ∙ sym (contains-row row.size row.words.items c.self.invariant.clear c.args.i) ∙ ap (λ (s : NumberSet). contains s.members c.args.i) view;
}
