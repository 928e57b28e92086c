-- The longer of two tokens begins with the shorter.
use Rattle.std.proofs.Common.{ap, subst, arith, ◌≤◌, length, List}
use Rattle.std.proofs.lemmas.Bool.Decides.{nat_tests}
use mathlib.Core.List.{IsPrefix}
use Rattle.tfs_published.specs.Change.{ChangeValue}
use Rattle.tfs_published.proofs.Prefixes.{prefix_shorter}
use Rattle.tfs_published.proofs.token.Token.begins_with.Goals as goal

pub returns-clause-yes : goal.returns-clause-yes
returns-clause-yes c tested =
    let both = c.learn.new.self.log in
    let this : IsPrefix c.self.inside.seen.log both =
    subst (λ (l : List ChangeValue). IsPrefix l both) (ap (λ s. s.log) c.again-both.ensures) c.learn.ensures.2 in
    let counts : c.other.inside.count ≤ c.self.inside.count = grind (arith, nat_tests, tested) in
    let shorter : length c.other.inside.seen.log ≤ length c.self.inside.seen.log = omega (arith, c.self.invariant, c.other.invariant, counts) in
    rw (← c.self.view_is, ← c.other.view_is) (prefix_shorter c.other.inside.seen.log c.self.inside.seen.log both c.learn.ensures.3 this shorter)
