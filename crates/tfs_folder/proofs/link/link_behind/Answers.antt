-- All bytes of the journal are its first bytes.
use Rattle.std.proofs.Common.{sym, ◌∙◌, subst}
use Rattle.tfs_folder.specs.Start.{CompactsTo}
use Rattle.tfs_folder.proofs.LinkLemmas.{all_are_front}
use Rattle.tfs_folder.proofs.BesideLemmas.{starts_with}
use Rattle.tfs_folder.proofs.link.link_behind.Goals as goal

pub returns : goal.returns
returns c = record {
  link = λ before opens.
      let text = c.as_slice.result.now in
      let compact = c.as_slice-2.result.now in
      let later = c.args.later.now in
      c.link_by.ensures before later text compact
      (starts_with before text c.args.earlier.now.journal opens c.requires c.in_ok-start.ensures.kept
      (c.as_slice.ensures.value ∙ c.in_ok-start.ensures.text))
      (subst (CompactsTo before) (sym c.as_slice-2.ensures.value) (c.in_ok-compact.ensures.text before opens))
      (c.fit_of.ensures.fit later (all_are_front text later)) (c.fit_of-2.ensures.fit later (all_are_front compact later));
}
