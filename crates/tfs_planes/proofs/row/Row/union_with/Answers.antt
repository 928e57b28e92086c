-- Combining the words unites the sets.
use Rattle.std.proofs.Common.{sym, subst, bit_or, arith}
use Rattle.tfs_planes.specs.Row.{IsClearFrom}
use Rattle.tfs_planes.proofs.BitLemmas.{clear_union}
use Rattle.tfs_planes.proofs.RowLemmas.{combined_items, same_length, same_size, union_view}
use Rattle.tfs_planes.proofs.row.Row.union_with.Goals as goal

pub invariant_of-self : goal.invariant_of-self
invariant_of-self c =
    let own = c.self.inside in
    let others = c.other.inside in
    let same = same_size own.size others.size own.words.items others.words.items _ _ c.self.view_is c.other.view_is c.requires.sizes in
    let long = same_length own.size others.size _ _ own.words.items others.words.items c.self.invariant c.other.invariant same own.words.ok.0
    others.words.ok.0 in
    let made = combined_items bit_or own.words _ _ others.words.items c.union_words.new.words c.deref_mut.ensures.value c.deref_mut.ensures.len
    c.deref.ensures.value c.union_words.ensures.union long in
    record {
      within = c.self.invariant.within;
      long = c.self.invariant.long;
      clear = subst (IsClearFrom own.size) (sym made) (clear_union own.size own.words.items others.words.items long c.self.invariant.clear
          (λ i past. c.other.invariant.clear i (omega arith)));
    }

pub returns : goal.returns
returns c = record {
  union =
      let own = c.self.inside in
      let others = c.other.inside in
      let same = same_size own.size others.size own.words.items others.words.items _ _ c.self.view_is c.other.view_is c.requires.sizes in
      let long = same_length own.size others.size _ _ own.words.items others.words.items c.self.invariant c.other.invariant same own.words.ok.0
      others.words.ok.0 in
      let made = combined_items bit_or own.words _ _ others.words.items c.union_words.new.words c.deref_mut.ensures.value c.deref_mut.ensures.len
      c.deref.ensures.value c.union_words.ensures.union long in
      union_view own.size others.size own.words.items others.words.items _ _ _ made c.self.view_is c.other.view_is same long c.self.invariant.clear
      c.other.invariant.clear;
}
