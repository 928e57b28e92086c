-- The loop handles the instances with the number from the last to the first.
use Rattle.std.proofs.Common.{◌≡◌, ◌∙◌, ◌+◌, ◌-◌, ◌||◌, ◌&&◌, ℕ, refl, ap, arith, eqb, leb}
use Rattle.std.specs.FinSet.{contains}
use Rattle.tfs_planes.specs.Relation.{Relation}
use Rattle.tfs_index.specs.Links.{has_number}
use Rattle.tfs_index.proofs.LinkLemmas.{before_place}
use Rattle.tfs_index.proofs.IndexLemmas.{walk_start, walk_end, each_step, nothing_more}
use Rattle.tfs_index.proofs.index.relate_each.Goals as goal

pub loop-place-init : goal.loop-place-init
loop-place-init c = record {
  size = refl;
  within = c.last-place.ensures.within;
  here = c.last-place.ensures.here;
  pairs = λ v w. nothing_more (contains c.args.plane.now.pairs (v, w)) (eqb w c.args.u)
      (leb c.last-place.result v && has_number c.args.links.now c.args.number v)
      (walk_start c.args.links.now c.args.number c.last-place.result v c.last-place.ensures);
}

pub loop-place-preserved : goal.loop-place-preserved
loop-place-preserved c =
    let some = c.loop-place-test.true in
    let at : ℕ = c.loop-place.place - 1 in
    let from : c.loop-place.place ≡ at + 1 = omega (arith, some) in
    let is = c.loop-place.invariant.here at from in
    let before = before_place c.args.links.now c.args.number c.loop-place.place c.before-place.result some c.loop-place.invariant.here c.before-place.ensures in
    let low = before.within in
    let high = c.loop-place.invariant.within in
    let inserted = c.set.ensures.inserted in
    record {
      size = ap (λ (r : Relation). r.size) inserted ∙ c.loop-place.invariant.size;
      within = omega (arith, low, high);
      here = before.here;
      pairs = λ v w. each_step c.args.links.now c.args.number c.args.plane.now c.loop-place.plane c.set.new.self at c.loop-place.place
          c.before-place.result c.args.u v w (ap (λ (r : Relation). r.pairs) inserted) is from before (c.loop-place.invariant.pairs v w);
    }

pub loop-place-smaller : goal.loop-place-smaller
loop-place-smaller c =
    let some = c.loop-place-test.true in
    let before = before_place c.args.links.now c.args.number c.loop-place.place c.before-place.result some c.loop-place.invariant.here c.before-place.ensures in
    let low = before.within in omega (arith, low, some)

pub returns-clause-pairs : goal.returns-clause-pairs
returns-clause-pairs c v w =
    let none = c.loop-place-test.false in
    c.loop-place.invariant.pairs v w
    ∙ ap (λ b. contains c.args.plane.now.pairs (v, w) || (eqb w c.args.u && b))
    (walk_end c.args.links.now c.args.number c.loop-place.place v (omega (arith, none)))
