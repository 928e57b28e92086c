-- Only versions have changed, and the workspaces before the current one have theirs.
use Rattle.std.proofs.Common.{◌≡◌, All, map, take}
use Rattle.tfs_table.specs.Workspaces.{row_of, HasVersion}
use Rattle.tfs_table.specs.declared.workspace.Workspace.{Workspace}
use Rattle.tfs_table.proofs.versions.with_versions.Given as goal

abbrev pub invariant-loop-i : goal.invariant-loop-i
invariant-loop-i l = record {
  rows : map row_of l.workspaces.items ≡ map row_of l.initial.workspaces.items;
  numbers : map (λ (w : Workspace). w.number) l.workspaces.items ≡ map (λ (w : Workspace). w.number) l.initial.workspaces.items;
  versions : All HasVersion (take l.i l.workspaces.items);
}
