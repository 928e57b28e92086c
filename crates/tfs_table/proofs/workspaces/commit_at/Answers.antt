-- The workspace of the name has the act at the end of its history, and the others are unchanged.
use Rattle.std.proofs.Common.{◌≡◌, All, length, rules, refl, sym, ◌∙◌, ap, subst}
use Rattle.tfs_rules.specs.Act.{act_value}
use Rattle.tfs_rules.specs.Verdict.{verdict_over}
use Rattle.tfs_records.specs.Journal.{with_entry}
use Rattle.tfs_table.specs.Workspaces.{IsFound, AreWorkspacesOf, HasVersion}
use Rattle.tfs_table.specs.declared.workspace.Workspace.{Workspace}
use Rattle.tfs_table.proofs.WorkspaceLemmas.{standing_at_place, workspace_changed, workspace_added, versions_changed}
use Rattle.tfs_table.proofs.WorkspaceLemmas.{versions_added, own_version, new_version, inserted}
use Rattle.tfs_table.proofs.workspaces.commit_at.Goals as goal

pub commit-requires : goal.commit-requires
commit-requires c =
    let place = subst (IsFound c.args.name c.args.workspaces.now.items) c.in-Ok.is c.requires.found in
    ap (λ (w : Workspace). verdict_over w.standing (act_value c.args.act)) c.index_mut-workspace.ensures.value
    ∙ ap (λ s. verdict_over s (act_value c.args.act)) (sym (standing_at_place _ _ _ c.index_mut-workspace.result.now place))
    ∙ c.requires.accepted

pub returns-in-Ok-clause-committed : goal.returns-in-Ok-clause-committed
returns-in-Ok-clause-committed c = λ j are.
    let place = subst (IsFound c.args.name c.args.workspaces.now.items) c.in-Ok.is c.requires.found in
    workspace_changed c.args.name (act_value c.args.act) c.args.workspaces.now.items c.in-Ok.place c.index_mut-workspace.result.now
    (record {
      name = c.index_mut-workspace.result.now.name;
      number = c.index_mut-workspace.result.now.number;
      standing = c.commit.new.self;
      version = c.args.version;
    })
    place c.index_mut-workspace.ensures.value refl refl c.commit.ensures.over_history j are

pub returns-in-Ok-clause-versions : goal.returns-in-Ok-clause-versions
returns-in-Ok-clause-versions c = λ j are all is.
    let place = subst (IsFound c.args.name c.args.workspaces.now.items) c.in-Ok.is c.requires.found in
    versions_changed c.args.workspaces.now.items c.in-Ok.place
    (record {
      name = c.index_mut-workspace.result.now.name;
      number = c.index_mut-workspace.result.now.number;
      standing = c.commit.new.self;
      version = c.args.version;
    })
    (own_version c.args.name (act_value c.args.act) c.args.workspaces.now.items c.in-Ok.place c.index_mut-workspace.result.now
    (record {
      name = c.index_mut-workspace.result.now.name;
      number = c.index_mut-workspace.result.now.number;
      standing = c.commit.new.self;
      version = c.args.version;
    })
    place c.index_mut-workspace.ensures.value c.commit.ensures.over_history j are is) all

pub returns-in-Err-clause-committed : goal.returns-in-Err-clause-committed
returns-in-Err-clause-committed c = λ j are.
    let gap = subst (IsFound c.args.name c.args.workspaces.now.items) c.in-Err.is c.requires.found in
    let new : Workspace = record {
      name = c.args.name;
      number = c.len.result;
      standing = c.commit-in-Err.new.self;
      version =
          c.args.version;
    } in
    let long : c.len.result ≡ length c.args.workspaces.now.items = search rules in
    subst (AreWorkspacesOf (with_entry j (record { name = c.args.name; act = act_value c.args.act }))) (sym
    (inserted c.insert.result _ _ _ c.insert.ensures.items
    (c.insert.ensures.succeeds c.requires.room)))
    (workspace_added c.args.name (act_value c.args.act) c.args.workspaces.now.items c.in-Err.place new gap refl long
    (λ h is. c.commit-in-Err.ensures.over_history h (c.empty-standing.ensures.value ∙ is)) j are)

pub returns-in-Err-clause-versions : goal.returns-in-Err-clause-versions
returns-in-Err-clause-versions c = λ j are all is.
    let gap = subst (IsFound c.args.name c.args.workspaces.now.items) c.in-Err.is c.requires.found in
    let new : Workspace = record {
      name = c.args.name;
      number = c.len.result;
      standing = c.commit-in-Err.new.self;
      version =
          c.args.version;
    } in
    let long : c.len.result ≡ length c.args.workspaces.now.items = search rules in
    subst (All HasVersion) (sym (inserted c.insert.result _ _ _ c.insert.ensures.items (c.insert.ensures.succeeds c.requires.room)))
    (versions_added c.args.workspaces.now.items c.in-Err.place new
    (new_version c.args.name (act_value c.args.act) c.args.workspaces.now.items c.in-Err.place new gap
    (λ h e. c.commit-in-Err.ensures.over_history h (c.empty-standing.ensures.value ∙ e)) j are is) all)
