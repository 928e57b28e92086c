-- After the last number no place has a token.
use Rattle.std.proofs.Common.{◌≡◌, ℕ, ◌∙◌, ap, arith, replicate, None}
use Rattle.tfs_published.proofs.published.no_since.Goals as goal

pub returns-clause-value : goal.returns-clause-value
returns-clause-value c =
    let all : c.loop-number._number ≡ 1024 = omega (arith, c.loop-number-test.false, c.loop-number.auto._number-end) in
    c.loop-number.invariant ∙ ap (λ (n : ℕ). replicate n None) all
