-- One more empty line is skipped.
use Rattle.std.proofs.Common.{sym, ◌∙◌, ap, ◌∷◌, [], ◌++◌}
use Rattle.httparse.specs.Grammar.{print_blank}
use Rattle.tfs_framing.proofs.HeadLemmas.{print_blank-snoc}
use Rattle.tfs_framing.proofs.head.skip_empty_lines.Goals as goal

pub loop-after-preserved : goal.loop-after-preserved
loop-after-preserved c =
    let passed = c.loop-after.invariant in
    let found = c.in-Some.ensures.found in
    (passed.0 ++ found.0 ∷ [], passed.1 ∙ ap (λ t. print_blank passed.0 ++ t) found.1 ∙ sym (print_blank-snoc passed.0 found.0 _))
