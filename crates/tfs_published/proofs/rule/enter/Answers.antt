-- The snapshot is of the copy that was entered.
use Rattle.std.proofs.Common.{sym, subst}
use Rattle.tfs_published.specs.Published.{StandsFor}
use Rattle.tfs_published.specs.declared.view.CopyView.{CopyView}
use Rattle.tfs_published.proofs.Seeing.{seen_of}
use Rattle.tfs_published.proofs.rule.enter.Goals as goal

pub returns-in-Ok : goal.returns-in-Ok
returns-in-Ok g c =
    let book = g.J.Naming.book in
    let opening = g.J.Naming.opening in
    let stands = subst (λ (copy : CopyView). StandsFor book opening copy) (sym c.get.ensures) c.in-Ok.ensures.1 in record {
      value = seen_of book opening c.get.result.now c.args.token.now c.args.name.now c.args.synced c.snapshot-snapshot.result stands c.requires.point
          c.snapshot-snapshot.ensures.value;
    }
