-- A name with a workspace keeps its number, and a new name gets the next one.
use Rattle.std.proofs.Common.{subst}
use Rattle.tfs_table.specs.Workspaces.{IsFound}
use Rattle.tfs_table.proofs.JudgeLemmas.{number_known, number_new}
use Rattle.tfs_table.proofs.making.number_after.Goals as goal

pub returns-in-Ok : goal.returns-in-Ok
returns-in-Ok c = λ j act are.
    let place = subst (IsFound c.args.name.now c.args.workspaces.now) c.in-Ok.is c.requires in
    number_known j act _ _ _ c.index-workspaces-place.result place are

pub returns-in-Err : goal.returns-in-Err
returns-in-Err c = λ j act are.
    let gap = subst (IsFound c.args.name.now c.args.workspaces.now) c.in-Err.is c.requires in
    number_new j act _ _ _ gap are
