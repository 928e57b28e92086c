-- Combining the words intersects the sets.
use Rattle.std.proofs.Common.{sym, subst, bit_and}
use Rattle.tfs_planes.specs.Row.{IsClearFrom}
use Rattle.tfs_planes.proofs.BitLemmas.{clear_meet}
use Rattle.tfs_planes.proofs.RowLemmas.{combined_items, same_length, same_size, meet_view}
use Rattle.tfs_planes.proofs.row.Row.meet_with.Goals as goal

pub invariant_of-self : goal.invariant_of-self
invariant_of-self c =
    let own = c.self.inside in
    let others = c.other.inside in
    let same = same_size own.size others.size own.words.items others.words.items _ _ c.self.view_is c.other.view_is c.requires.sizes in
    let long = same_length own.size others.size _ _ own.words.items others.words.items c.self.invariant c.other.invariant same own.words.ok.0
    others.words.ok.0 in
    let made = combined_items bit_and own.words _ _ others.words.items c.meet_words.new.words c.deref_mut.ensures.value c.deref_mut.ensures.len
    c.deref.ensures.value c.meet_words.ensures.meet long in
    record {
      within = c.self.invariant.within;
      long = c.self.invariant.long;
      clear = subst (IsClearFrom own.size) (sym made) (clear_meet own.size own.words.items others.words.items long c.self.invariant.clear);
    }

pub returns : goal.returns
returns c = record {
  meet =
      let own = c.self.inside in
      let others = c.other.inside in
      let same = same_size own.size others.size own.words.items others.words.items _ _ c.self.view_is c.other.view_is c.requires.sizes in
      let long = same_length own.size others.size _ _ own.words.items others.words.items c.self.invariant c.other.invariant same own.words.ok.0
      others.words.ok.0 in
      let made = combined_items bit_and own.words _ _ others.words.items c.meet_words.new.words c.deref_mut.ensures.value c.deref_mut.ensures.len
      c.deref.ensures.value c.meet_words.ensures.meet long in
      meet_view own.size others.size own.words.items others.words.items _ _ _ made c.self.view_is c.other.view_is same long c.self.invariant.clear
      c.other.invariant.clear;
}
