-- The step adds the change, or finds that the history is longer.
use Rattle.std.proofs.Common.{◌≡◌, sym, ◌∙◌, ap, length}
use Rattle.tfs_published.specs.Change.{change_of}
use Rattle.tfs_published.proofs.Adding.{adds_moves}
use Rattle.tfs_published.proofs.token.Token.with.Goals as goal

pub compare_exchange-found-requires : goal.compare_exchange-found-requires
compare_exchange-found-requires g c =
    let h = c.head.ensures.value in
    let offer = c.plain-offer.ensures in
    let pen = c.no_pen-pen.ensures in
    let seen = c.again-seen.ensures in
    let own : c.self.inside.seen.book ≡ g.J.Naming.book = ap (λ v. v.book) c.self.view_is ∙ c.requires.book in
    let book = ap (λ s. s.book) seen ∙ (own ∙ sym (ap (λ w. w.book) h)) in
    let count : length c.again-seen.result.log ≡ c.self.inside.count = ap (λ s. length s.log) seen ∙ sym c.self.invariant in (
      ap (λ w. w.tracked) h,
      book,
      pen.0 ∙ book,
      offer.0,
      rw (ap (λ w. w.key) h, pen.1, offer.1, offer.3) (adds_moves c.again-seen.result.log (change_of c.args.maker c.args.ready.now) c.self.inside.count count),
    )
