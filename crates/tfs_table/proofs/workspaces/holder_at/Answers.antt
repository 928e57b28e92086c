-- The holder is the holder of the name's workspace.
use Rattle.std.proofs.Common.{sym, ◌∙◌, ap}
use Rattle.tfs_rules.specs.History.{Standing}
use Rattle.tfs_table.proofs.WorkspaceLemmas.{standing_at_place}
use Rattle.tfs_table.proofs.workspaces.holder_at.Goals as goal

pub returns-in-Ok : goal.returns-in-Ok
returns-in-Ok c =
    c.holder.ensures.value ∙ sym (ap (λ (s : Standing). s.holder) (standing_at_place _ _ _ c.index-workspaces-place.result c.in-Ok.ensures))
