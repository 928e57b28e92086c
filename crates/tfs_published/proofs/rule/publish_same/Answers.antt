-- A copy that doesn't change represents the same journal as before.
use Rattle.std.proofs.Common.{sym, ◌∙◌, subst}
use Rattle.tfs_published.specs.Published.{StandsFor}
use Rattle.tfs_published.specs.declared.view.CopyView.{CopyView}
use Rattle.tfs_published.proofs.rule.publish_same.Goals as goal

pub publish_as-writer-requires : goal.publish_as-writer-requires
publish_as-writer-requires g c next is = λ views stands at.
    let kept = subst (λ (copy : CopyView). StandsFor g.J.Naming.book g.J.Naming.opening copy) (sym (is ∙ c.requires.same)) stands in
    (tt, kept, kept)
