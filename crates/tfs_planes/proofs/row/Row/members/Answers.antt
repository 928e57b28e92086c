-- The numbers of the set bits are the members, in ascending order.
use Rattle.std.proofs.Common.{sym, ap, subst, ◌∙◌}
use Rattle.std.proofs.lemmas.Result.{IfOk-weaker}
use Rattle.std.specs.List.Sorted.{IsStrictlyIncreasing}
use Rattle.tfs_planes.specs.Row.{members_of, rising_members}
use Rattle.tfs_planes.proofs.BitLemmas.{rising-row, members_rise}
use Rattle.tfs_planes.proofs.row.Row.members.Goals as goal

pub returns-clause-members : goal.returns-clause-members
returns-clause-members c =
    let row = c.self.inside in
    let same = ap (members_of row.size) c.deref.ensures.value in
    IfOk-weaker c.members_of.result _ _ (λ numbers is. is ∙ same ∙ sym (rising-row row.size row.words.items c.self.invariant.clear)
    ∙ ap rising_members c.self.view_is) c.members_of.ensures

pub returns-clause-rising : goal.returns-clause-rising
returns-clause-rising c =
    IfOk-weaker c.members_of.result _ _ (λ numbers is. subst IsStrictlyIncreasing (sym is) (members_rise c.self.inside.size c.deref.result.now))
    c.members_of.ensures
