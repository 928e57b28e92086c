-- The row begins with what the first text reaches and is intersected with what each text reaches.
use Rattle.std.proofs.Common.{◌∙◌, ◌&&◌, ◌||◌, [], get_or, ap, ap₂}
use Rattle.std.specs.FinSet.{contains, contains-empty}
use Rattle.std.specs.List.{list_all}
use Rattle.std.specs.Ordering.{nat_cmp}
use Rattle.std.proofs.lemmas.List.{take_all}
use Rattle.tfs_planes.specs.Row.{NumberSet}
use Rattle.tfs_index.specs.Impact.{is_reached}
use Rattle.tfs_index.proofs.ImpactLemmas.{all_with_first}
use Rattle.tfs_index.proofs.impact.all_row.Goals as goal

pub returns-clause-members : goal.returns-clause-members
returns-clause-members c u =
    c.loop-text.invariant.members u
    ∙ ap₂ (λ a b. a && b)
    (c.unite.ensures.members u
    ∙ ap (λ b. b || is_reached c.args.doc.now (get_or c.args.texts.now 0 record { ref_ptr = (0, 0); now = [] }).now u)
    (ap (λ (r : NumberSet). contains r.members u) c.in_ok-row.ensures.empty ∙ contains-empty nat_cmp u))
    (ap (list_all (λ text. is_reached c.args.doc.now text.now u)) (take_all c.loop-text.text-index c.args.texts.now c.loop-text-test.false))
    ∙ all_with_first (λ text. is_reached c.args.doc.now text.now u) c.args.texts.now (record { ref_ptr = (0, 0); now = [] }) c.requires.some
