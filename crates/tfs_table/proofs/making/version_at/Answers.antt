-- The workspace of the name has the version of the name's state.
use Rattle.std.proofs.Common.{Some, sym, ◌∙◌, ap, subst, option_map}
use Rattle.std.specs.Arc.{arc_value}
use Rattle.tfs_table.specs.Workspaces.{IsFound}
use Rattle.tfs_table.proofs.JudgeLemmas.{version_here}
use Rattle.tfs_table.proofs.making.version_at.Goals as goal

pub returns-in_ok-clone-in-Some : goal.returns-in_ok-clone-in-Some
returns-in_ok-clone-in-Some c =
    let place = subst (IsFound c.args.name.now c.args.workspaces.now) c.in-Ok.is c.requires.found in
    record {
      value = ap (λ d. Some d) c.in_ok-clone-in-Some.ensures.cases ∙ sym (ap (option_map arc_value) c.in-Some.is)
          ∙ version_here _ _ _ c.index-workspaces-place.result place c.requires.versions;
    }

pub returns-in-None : goal.returns-in-None
returns-in-None c =
    let place = subst (IsFound c.args.name.now c.args.workspaces.now) c.in-Ok.is c.requires.found in
    record {
      value = sym (ap (option_map arc_value) c.in-None.is) ∙ version_here _ _ _ c.index-workspaces-place.result place c.requires.versions;
    }
