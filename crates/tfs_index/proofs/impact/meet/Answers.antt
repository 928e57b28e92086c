-- The row is intersected with what the text reaches.
use Rattle.std.proofs.Common.{◌≡◌, ◌∙◌, ◌||◌, ◌&&◌, ap}
use Rattle.std.specs.Cmp.{nat_cmp_total}
use Rattle.std.specs.Ordering.{nat_cmp}
use Rattle.std.specs.FinSet.{contains, contains-empty, contains-intersection}
use Rattle.tfs_planes.specs.Row.{NumberSet}
use Rattle.tfs_index.specs.Impact.{is_reached}
use Rattle.tfs_index.proofs.impact.meet.Goals as goal

pub returns : goal.returns
returns c = record {
  size = ap (λ (r : NumberSet). r.size) c.meet_with.ensures.meet;
  other = c.unite.ensures.size ∙ ap (λ (r : NumberSet). r.size) c.clear.ensures.empty;
  members = λ u.
      let one : contains c.unite.new.row.members u ≡ is_reached c.args.doc.now c.args.text.now u =
      c.unite.ensures.members u
      ∙ ap (λ b. b || is_reached c.args.doc.now c.args.text.now u)
      (ap (λ (r : NumberSet). contains r.members u) c.clear.ensures.empty ∙ contains-empty nat_cmp u) in
      ap (λ (r : NumberSet). contains r.members u) c.meet_with.ensures.meet
      ∙ contains-intersection nat_cmp_total c.args.row.now.members c.unite.new.row.members u
      ∙ ap (λ b. contains c.args.row.now.members u && b) one;
}
