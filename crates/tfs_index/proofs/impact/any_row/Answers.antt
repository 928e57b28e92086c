use Rattle.std.proofs.Common.{◌∙◌, ap}
use Rattle.tfs_planes.specs.Row.{NumberSet}
use Rattle.std.specs.Ordering.{nat_cmp}
use Rattle.std.specs.FinSet.{contains, contains-empty}
use Rattle.tfs_index.proofs.impact.any_row.Goals as goal

-- At the start no text has been added.
pub loop-text-init : goal.loop-text-init
loop-text-init c = record {
  size = ap (λ (r : NumberSet). r.size) c.in_ok-row.ensures.empty ∙ c.size.ensures.size ∙ c.requires.plane.size;
  members = λ u. ap (λ (r : NumberSet). contains r.members u) c.in_ok-row.ensures.empty ∙ contains-empty nat_cmp u;
}
