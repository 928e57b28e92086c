-- The loop handles the instances of the bucket from the last to the first.
use Rattle.std.proofs.Common.{◌≡◌, ◌∙◌, ◌+◌, ◌-◌, ◌<◌, length, ◌||◌, ◌&&◌, ℕ, refl, sym, ap, arith, leb}
use Rattle.std.specs.FinSet.{contains}
use Rattle.tfs_planes.specs.Row.{NumberSet}
use Rattle.tfs_index.specs.Links.{has_number}
use Rattle.tfs_index.proofs.LinkLemmas.{before_place}
use Rattle.tfs_index.proofs.IndexLemmas.{walk_start, walk_end}
use Rattle.tfs_index.proofs.BucketLemmas.{from_none, from_alike, bucket_step, step_named, step_other, or_none}
use Rattle.tfs_index.proofs.impact.unite_bucket.Goals.{then-names, else-names}
use Rattle.tfs_index.proofs.impact.unite_bucket.Goals as goal

pub loop-place-init : goal.loop-place-init
loop-place-init c = record {
  size = refl;
  within = c.last-place.ensures.within;
  here = c.last-place.ensures.here;
  members = λ u. sym (ap (λ b. contains c.args.row.now.members u || b)
      (from_none c.args.doc.now c.args.text.now (λ v. leb c.last-place.result v && has_number c.args.links.now c.args.bucket v) u
      (λ v. walk_start c.args.links.now c.args.bucket c.last-place.result v c.last-place.ensures))
      ∙ or_none (contains c.args.row.now.members u));
}

pub loop-place-preserved : goal.loop-place-preserved
loop-place-preserved c =
    let some = c.loop-place-test.true in
    let at : ℕ = c.loop-place.place - 1 in
    let from : c.loop-place.place ≡ at + 1 = omega (arith, some) in
    let is = c.loop-place.invariant.here at from in
    let before = before_place c.args.links.now c.args.bucket c.loop-place.place c.before-place.result some c.loop-place.invariant.here c.before-place.ensures in
    let low = before.within in
    let high = c.loop-place.invariant.within in
    let long = c.requires.links in
    let h : at < length c.args.doc.now.instances = omega (arith, some, high, long) in
    let step = bucket_step c.args.doc.now c.args.text.now c.args.links.now c.args.bucket c.args.row.now c.loop-place.row c.if-names.row at
    c.loop-place.place c.before-place.result in
    elim c.if-names.branch [
      | then-names w ↦ record {
        size = ap (λ (r : NumberSet). r.size) w.row-is ∙ w.union_row_into.ensures.size ∙ c.loop-place.invariant.size;
        within = omega (arith, low, high);
        here = before.here;
        members = λ u. step u h from is before (c.loop-place.invariant.members u)
            (step_named c.args.doc.now c.args.plane.now c.requires.plane c.args.text.now c.loop-place.row c.if-names.row at u
            (sym c.names.ensures ∙ w.if-names.true) (ap (λ (r : NumberSet). contains r.members u) w.row-is ∙ w.union_row_into.ensures.members u));
      }
      | else-names w ↦ record {
        size = ap (λ (r : NumberSet). r.size) w.row-is ∙ c.loop-place.invariant.size;
        within = omega (arith, low, high);
        here = before.here;
        members = λ u. step u h from is before (c.loop-place.invariant.members u)
            (step_other c.args.doc.now c.args.text.now c.loop-place.row c.if-names.row at u (sym c.names.ensures ∙ w.if-names.false) w.row-is);
      }
    ]

pub loop-place-smaller : goal.loop-place-smaller
loop-place-smaller c =
    let some = c.loop-place-test.true in
    let before = before_place c.args.links.now c.args.bucket c.loop-place.place c.before-place.result some c.loop-place.invariant.here c.before-place.ensures in
    let low = before.within in omega (arith, low, some)

pub returns-clause-members : goal.returns-clause-members
returns-clause-members c u =
    let none = c.loop-place-test.false in
    c.loop-place.invariant.members u
    ∙ ap (λ b. contains c.args.row.now.members u || b)
    (from_alike c.args.doc.now c.args.text.now (λ v. leb c.loop-place.place v && has_number c.args.links.now c.args.bucket v)
    (has_number c.args.links.now c.args.bucket) u
    (λ v. walk_end c.args.links.now c.args.bucket c.loop-place.place v (omega (arith, none))))
