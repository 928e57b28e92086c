-- The copy that readers enter has the newest token.
use Rattle.std.proofs.Common.{arith, length, ap, sym, subst, ◌∙◌}
use Rattle.tfs_records.specs.Journal.{Journal}
use Rattle.tfs_published.specs.Change.{journal_after}
use Rattle.tfs_published.specs.Published.{IsPublished}
use Rattle.tfs_published.specs.Token.{TokenValue}
use Rattle.tfs_published.specs.Beginning.{BeginsWith}
use Rattle.tfs_table.specs.Lawful.{IsLawful}
use Rattle.tfs_published.proofs.Beginnings.{opening_begins, makers_counted}
use Rattle.tfs_published.proofs.Publishers.{publisher_point}
use Rattle.tfs_published.proofs.publisher.Publisher.shows.Goals as goal

pub returns : goal.returns
returns g c =
    let publisher = c.self.invariant in
    let same = ap (λ v. v.journal) c.self.view_is in
    let journal = ap (λ (t : TokenValue). journal_after g.J.Naming.opening t.changes) publisher.newest_is ∙ same in
    record {
      value = record {
        copy = publisher.copy;
        shown = sym (ap (λ v. v.shown) c.self.view_is) ∙ publisher.shows;
        published = subst (λ (j : Journal). IsPublished publisher.copy j) journal
            (record { places = publisher.stands.places; position = publisher.stands.point.position });
      };
      counted =
          let makers = ap (λ v. length v.makers) c.self.view_is in
          let entries = ap (λ v. length v.journal.entries) c.self.view_is in
          omega (arith, makers, entries, makers_counted g.J.Naming.opening c.self.inside.newest.changes);
      lawful = subst IsLawful same (publisher_point _ _ _ _ _ _ publisher).lawful;
      begins = subst (λ (j : Journal). BeginsWith j g.J.Naming.opening) same (opening_begins g.J.Naming.opening c.self.inside.newest.changes);
    }
