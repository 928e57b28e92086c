-- A number is a member if its bit is set.
use Rattle.std.proofs.Common.{◌∙◌}
use Rattle.tfs_planes.proofs.RowLemmas.{member_bit, some_weaker, none_weaker}
use Rattle.tfs_planes.proofs.row.Row.next_member.Goals as goal

pub returns-clause-member : goal.returns-clause-member
returns-clause-member c =
    let row = c.self.inside in
    let is = member_bit row.size row.words.items c.deref.result.now c.args.self.now c.self.view_is c.self.invariant.clear c.deref.ensures.value in
    some_weaker c.next_bit.result _ _ (λ i member. is i ∙ member) c.next_bit.ensures.member

pub returns-clause-first : goal.returns-clause-first
returns-clause-first c =
    let row = c.self.inside in
    let is = member_bit row.size row.words.items c.deref.result.now c.args.self.now c.self.view_is c.self.invariant.clear c.deref.ensures.value in
    some_weaker c.next_bit.result _ _ (λ i first k low high. is k ∙ first k low high) c.next_bit.ensures.first

pub returns-clause-none : goal.returns-clause-none
returns-clause-none c =
    let row = c.self.inside in
    let is = member_bit row.size row.words.items c.deref.result.now c.args.self.now c.self.view_is c.self.invariant.clear c.deref.ensures.value in
    none_weaker c.next_bit.result _ _ (λ none k low. is k ∙ none k low) c.next_bit.ensures.none
