-- The longer of two tokens of one history begins with the shorter.
use Rattle.tfs_published.proofs.Beginnings.{later_begins, later_makers}
use Rattle.tfs_published.proofs.point.Point.covers.Goals as goal

pub returns-clause-yes : goal.returns-clause-yes
returns-clause-yes g c = λ is.
    let this = c.self.inside.token.changes in
    let other = c.other.inside.token.changes in
    rw (← c.self.view_is, ← c.other.view_is) (
      later_begins g.J.Naming.opening other this (c.begins_with.ensures.yes is),
      later_makers other this (c.begins_with.ensures.yes is),
    )
