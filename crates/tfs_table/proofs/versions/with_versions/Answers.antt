-- Each step builds the version of the next workspace, and the rows are unchanged.
use Rattle.std.proofs.Common.{[], ◌∷◌, All, take, sym, ◌∙◌, ap, subst, length, arith}
use Rattle.std.proofs.Math.Seq.{map-set_same}
use Rattle.std.proofs.lemmas.List.{take_more_set, take_all, length-map}
use Rattle.std.proofs.lemmas.List.Elements.{All-append, All-cons, All-nil}
use Rattle.tfs_table.specs.Workspaces.{row_of, HasVersion}
use Rattle.tfs_table.specs.declared.workspace.Workspace.{Workspace}
use Rattle.tfs_table.proofs.versions.with_versions.Goals as goal

pub loop-i-preserved : goal.loop-i-preserved
loop-i-preserved c =
    let new = c.give_version.new.workspace in
    let all = c.loop-i.workspaces.items in
    let long = ap length c.loop-i.invariant.rows in
    record {
      rows = map-set_same row_of all c.loop-i.i new c.index_mut.result.now
          (c.in_ok-give_version.ensures.row ∙ ap row_of c.index_mut.ensures.value) ∙ c.loop-i.invariant.rows;
      numbers = map-set_same (λ (w : Workspace). w.number) all c.loop-i.i new c.index_mut.result.now
          (c.in_ok-give_version.ensures.number ∙ ap (λ (w : Workspace). w.number) c.index_mut.ensures.value) ∙ c.loop-i.invariant.numbers;
      versions = subst (All HasVersion) (sym (take_more_set all c.loop-i.i new
          (omega (arith, long, length-map all row_of, length-map c.args.workspaces.items row_of))))
          (All-append HasVersion (take c.loop-i.i all) (new ∷ []) c.loop-i.invariant.versions
          (All-cons HasVersion new [] c.in_ok-give_version.ensures.version (All-nil HasVersion)));
    }

pub returns-clause-versions : goal.returns-clause-versions
returns-clause-versions c =
    let all = c.loop-i.workspaces.items in
    let long = ap length c.loop-i.invariant.rows in
    subst (All HasVersion) (take_all c.loop-i.i all
    (omega (arith, long, length-map all row_of, length-map c.args.workspaces.items row_of))) c.loop-i.invariant.versions
