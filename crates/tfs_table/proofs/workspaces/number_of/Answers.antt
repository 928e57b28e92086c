-- The number of a name is the number of the name's workspace.
use Rattle.std.proofs.Common.{sym, ◌∙◌, ap, is_some}
use Rattle.std.specs.List.{find}
use Rattle.tfs_table.specs.Workspaces.{is_of}
use Rattle.tfs_table.proofs.WorkspaceLemmas.{find_behind}
use Rattle.tfs_table.proofs.JudgeLemmas.{number_here}
use Rattle.tfs_table.proofs.workspaces.number_of.Goals as goal

pub returns-in-Ok : goal.returns-in-Ok
returns-in-Ok c =
    let p = c.in-Ok.ensures in
    record {
      found = λ j are. number_here j _ _ _ c.index-workspaces-place.result p are;
      known = sym (ap is_some (ap (find (is_of c.args.name.now)) p.parts
          ∙ find_behind (is_of c.args.name.now) p.before p.after p.own p.first p.named));
    }
