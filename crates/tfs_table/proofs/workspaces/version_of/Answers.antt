-- The version is the version of the name's workspace.
use Rattle.std.proofs.Common.{sym, ◌∙◌, ap, option_map}
use Rattle.std.specs.Arc.{arc_value}
use Rattle.tfs_table.proofs.JudgeLemmas.{version_here}
use Rattle.tfs_table.proofs.workspaces.version_of.Goals as goal

pub returns-in-Some : goal.returns-in-Some
returns-in-Some c = record {
  value = sym (ap (option_map arc_value) c.in-Some.is) ∙ version_here _ _ _ c.index-workspaces-place.result c.in-Ok.ensures
      c.requires.versions;
}

pub returns-in-None : goal.returns-in-None
returns-in-None c = record {
  value = sym (ap (option_map arc_value) c.in-None.is) ∙ version_here _ _ _ c.index-workspaces-place.result c.in-Ok.ensures
      c.requires.versions;
}
