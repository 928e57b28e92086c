-- What the reader sees begins with what it had seen.
use Rattle.std.proofs.Common.{Option, subst, IfSome}
use Rattle.tfs_published.specs.Snapshot.{IsSeen}
use Rattle.tfs_published.specs.declared.snapshot.Snapshot.{Snapshot}
use Rattle.tfs_published.proofs.Beginnings.{later_begins, later_makers}
use Rattle.tfs_published.proofs.reader.Reader.look_within.Goals as goal

pub returns-clause-later : goal.returns-clause-later
returns-clause-later g c =
    let opening = g.J.Naming.opening in
    let before = c.token.result.now in
    let seen =
    subst (λ (o : Option Snapshot). IfSome o (λ snapshot. IsSeen g.J.Naming.book opening before c.args.name.now snapshot)) c.in-Some.is
    c.enter-copies.ensures.value in
    rw (c.new.ensures.value, ← c.self.view_is, c.token.ensures.value) (
      later_begins opening before.changes c.in-Some.snapshot.token.changes seen.begins,
      later_makers before.changes c.in-Some.snapshot.token.changes seen.begins,
    )
