-- The workspace at the name's index has the state and holder of the name.
use Rattle.std.proofs.Common.{subst, sym}
use Rattle.tfs_rules.specs.Act.{act_value}
use Rattle.tfs_table.specs.Workspaces.{IsFound}
use Rattle.tfs_table.proofs.WorkspaceLemmas.{standing_at_place}
use Rattle.tfs_table.proofs.JudgeLemmas.{heeded}
use Rattle.tfs_table.proofs.judge.judge_by_rules.Goals as goal

pub returns-in-Ok-clause-accepted : goal.returns-in-Ok-clause-accepted
returns-in-Ok-clause-accepted c =
    let place = subst (IsFound c.args.name.now c.args.workspaces.now) c.in-Ok.is c.requires in
    rw (heeded _ _ (act_value c.args.act.now) _ _ (standing_at_place _ _ _ c.index-workspaces-place.result place) c.holder.ensures.value
    c.verdict.ensures.over_standing) c.heed.ensures.accepted

pub returns-in-Ok-clause-refused : goal.returns-in-Ok-clause-refused
returns-in-Ok-clause-refused c =
    let place = subst (IsFound c.args.name.now c.args.workspaces.now) c.in-Ok.is c.requires in
    rw (heeded _ _ (act_value c.args.act.now) _ _ (standing_at_place _ _ _ c.index-workspaces-place.result place) c.holder.ensures.value
    c.verdict.ensures.over_standing) c.heed.ensures.refused

pub returns-in-Ok-clause-refusing : goal.returns-in-Ok-clause-refusing
returns-in-Ok-clause-refusing c =
    let place = subst (IsFound c.args.name.now c.args.workspaces.now) c.in-Ok.is c.requires in
    rw (heeded _ _ (act_value c.args.act.now) _ _ (standing_at_place _ _ _ c.index-workspaces-place.result place) c.holder.ensures.value
    c.verdict.ensures.over_standing) c.heed.ensures.refusing

pub returns-in-Ok-clause-memory : goal.returns-in-Ok-clause-memory
returns-in-Ok-clause-memory c =
    let place = subst (IsFound c.args.name.now c.args.workspaces.now) c.in-Ok.is c.requires in
    rw (standing_at_place _ _ _ c.index-workspaces-place.result place, sym c.verdict.ensures.over_standing) c.heed.ensures.memory
