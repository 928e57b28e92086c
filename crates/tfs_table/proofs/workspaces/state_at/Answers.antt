-- The state is the state of the name's workspace.
use Rattle.std.proofs.Common.{Some, refl, sym, ◌∙◌, ap, inr}
use Rattle.tfs_rules.specs.History.{Standing}
use Rattle.std.proofs.lemmas.Result.{err_from_is_err_and}
use Rattle.tfs_table.proofs.WorkspaceLemmas.{standing_at_place}
use Rattle.tfs_table.proofs.workspaces.state_at.Goals as goal

pub returns-in_ok-clone-in-Some-clause-found : goal.returns-in_ok-clone-in-Some-clause-found
returns-in_ok-clone-in-Some-clause-found c =
    ap (λ (s : Standing). s.state) (standing_at_place _ _ _ c.index-workspaces-place.result c.in-Ok.ensures)
    ∙ sym c.in-Some.ensures.value ∙ ap (λ d. Some d) (sym c.in_ok-clone-in-Some.ensures.cases)

pub returns-in-None-clause-absent : goal.returns-in-None-clause-absent
returns-in-None-clause-absent c =
    inr (
      refl,
      ap (λ (s : Standing). s.state) (standing_at_place _ _ _ c.index-workspaces-place.result c.in-Ok.ensures)
          ∙ sym c.in-None.ensures.value,
    )

pub returns-in_err-clone-in-Some-clause-memory : goal.returns-in_err-clone-in-Some-clause-memory
returns-in_err-clone-in-Some-clause-memory c =
    let p = err_from_is_err_and c.from_residual.result c.from_residual.ensures.1 in
    let there = ap (λ (s : Standing). s.state) (standing_at_place _ _ _ c.index-workspaces-place.result c.in-Ok.ensures)
    ∙ sym c.in-Some.ensures.value in
    rw p.1 (λ is none. let e = sym there ∙ none in cc)
