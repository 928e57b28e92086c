-- Each step links the next instance.
use Rattle.std.proofs.Common.{◌∙◌, ◌∷◌, [], ℕ, List, length, get_or, sym, ap, subst, arith, length-append}
use Rattle.std.proofs.lemmas.Option.{slice_get-get_or}
use Rattle.tfs_index.specs.Links.{IsBehindLast, AreLinks}
use Rattle.tfs_index.proofs.LinkLemmas.{none_behind, zero_at, lasts_more, befores_more, links_made}
use Rattle.tfs_index.proofs.links.Links.new.Goals as goal

pub loop-v-init : goal.loop-v-init
loop-v-init c = record {
  long = ap (λ (xs : List ℕ). length xs) c.in_ok-befores.ensures.items;
  lasts = λ k. none_behind c.deref-number-items.result.now k (get_or c.in_ok-lasts.lasts.items k 0)
      (ap (λ (xs : List ℕ). get_or xs k 0) c.in_ok-lasts.ensures ∙ zero_at c.len.result k);
  befores = λ w n h is. absurd (omega (arith, h));
}

pub loop-v-preserved : goal.loop-v-preserved
loop-v-preserved c =
    let numbers : List ℕ = c.deref-number-items.result.now in
    let v : ℕ = c.loop-v.v in
    let number : ℕ = get_or numbers v 0 in
    let at = slice_get-get_or numbers v 0 c.loop-v-test.true in
    let pushed = c.in_ok-push.ensures.items in
    let long = ap (λ (xs : List ℕ). length xs) pushed in
    let one = length-append c.loop-v.befores.items (c.in_ok-before.before ∷ []) in
    let so_far = c.loop-v.invariant.long in
    record {
      long = omega (arith, long, one, so_far);
      lasts = lasts_more numbers v number at c.loop-v.lasts.items c.exchange.new.list.items c.in_ok-before.ensures.now c.loop-v.invariant.lasts;
      befores = befores_more numbers v number at c.loop-v.befores.items c.push.new.self.items c.in_ok-before.before so_far pushed
          (subst (λ p. IsBehindLast numbers number v p) (sym c.in_ok-before.ensures.was) (c.loop-v.invariant.lasts number)) c.loop-v.invariant.befores;
    }

pub invariant_of-result : goal.invariant_of-result
invariant_of-result c =
    let end = c.loop-v-test.false in
    let top = c.loop-v.auto.v-end in
    subst (λ (ns : List ℕ). AreLinks ns c.loop-v.lasts.items c.loop-v.befores.items) c.deref-number-items.ensures.value
    (links_made c.deref-number-items.result.now c.loop-v.lasts.items c.loop-v.befores.items c.loop-v.v (omega (arith, end, top))
    c.loop-v.invariant.long c.loop-v.invariant.lasts c.loop-v.invariant.befores)
