-- After publishing, the copies represent the journals after their tokens' changes.
use Rattle.std.proofs.Common.{sym, ◌∙◌, ap, subst}
use Rattle.std.specs.List.{fold}
use Rattle.tfs_published.specs.Published.{absorbed, StandsFor}
use Rattle.tfs_published.specs.declared.view.CopyView.{CopyView}
use Rattle.tfs_published.proofs.Taken.{takes_change}
use Rattle.tfs_published.proofs.rule.publish.Goals as goal

pub publish_as-writer-requires : goal.publish_as-writer-requires
publish_as-writer-requires g c next is = λ views stands at.
    let shown = c.args.writer.desk.shown.value in
    let queued = c.requires.queued in
    let one = is ∙ ap (fold absorbed shown) queued.one in
    let stood = takes_change g.J.Naming.book g.J.Naming.opening shown queued.update queued.change stands queued.tells in
    let kept = subst (λ (copy : CopyView). StandsFor g.J.Naming.book g.J.Naming.opening copy) (sym one) stood in
    (tt, kept, kept)
