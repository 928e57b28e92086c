-- An act that neither the rules nor the limits refuse is accepted.
use Rattle.std.proofs.Common.{◌∙◌, inr}
use Rattle.std.proofs.lemmas.Result.{err_from_is_err_and}
use Rattle.tfs_table.proofs.JudgeLemmas.{judged_accepted, judged_by_limits, refused_by_rules, refused_by_any, new_in_gap}
use Rattle.tfs_table.proofs.LawfulLemmas.{accept_only}
use Rattle.tfs_table.proofs.judge.judge.Goals as goal

pub returns-in_err-judge_by_limits-clause-refused : goal.returns-in_err-judge_by_limits-clause-refused
returns-in_err-judge_by_limits-clause-refused c =
    let p = err_from_is_err_and c.from_residual-in_err-judge_by_limits.result c.from_residual-in_err-judge_by_limits.ensures.1 in
    rw (p.1, p.2) (inr (λ j are long. judged_by_limits j _ _ _ _ _ _ are long
    (c.is_err.ensures.value ∙ new_in_gap _ _ _ c.place_of-place.ensures)
    c.in_ok-judge_by_rules.ensures.accepted c.in_err-judge_by_limits.ensures.refused))

pub returns-clause-accepted : goal.returns-clause-accepted
returns-clause-accepted c = λ j are long.
    judged_accepted j _ _ _ _ _ are long (c.is_err.ensures.value ∙ new_in_gap _ _ _ c.place_of-place.ensures)
    c.in_ok-judge_by_rules.ensures.accepted c.in_ok-judge_by_limits.ensures.accepted

pub returns-clause-accept : goal.returns-clause-accept
returns-clause-accept c = accept_only _ _ c.in_ok-judge_by_rules.ensures.accepted

pub returns-in_err-judge_by_rules-clause-refusing : goal.returns-in_err-judge_by_rules-clause-refusing
returns-in_err-judge_by_rules-clause-refusing c =
    let p = err_from_is_err_and c.from_residual.result c.from_residual.ensures.1 in
    rw p.1 (λ j are long. refused_by_rules j _ _ _ are c.in_err-judge_by_rules.ensures.refusing)

pub returns-in_err-judge_by_limits-clause-refusing : goal.returns-in_err-judge_by_limits-clause-refusing
returns-in_err-judge_by_limits-clause-refusing c =
    let p = err_from_is_err_and c.from_residual-in_err-judge_by_limits.result c.from_residual-in_err-judge_by_limits.ensures.1 in
    rw p.1 (λ j are long. refused_by_any _ _ (judged_by_limits j _ _ _ _ _ _ are long
    (c.is_err.ensures.value ∙ new_in_gap _ _ _ c.place_of-place.ensures)
    c.in_ok-judge_by_rules.ensures.accepted c.in_err-judge_by_limits.ensures.refused))

pub returns-in_err-judge_by_limits-clause-memory : goal.returns-in_err-judge_by_limits-clause-memory
returns-in_err-judge_by_limits-clause-memory c =
    let p = err_from_is_err_and c.from_residual-in_err-judge_by_limits.result c.from_residual-in_err-judge_by_limits.ensures.1 in
    rw (p.1, p.2) (λ is. absurd (c.in_err-judge_by_limits.ensures.memory is))
