-- The publisher shows the opening journal to readers.
use Rattle.std.proofs.Common.{sym, ◌∙◌, ap}
use Rattle.tfs_published.specs.Token.{TokenValue}
use Rattle.tfs_published.proofs.Publishers.{publisher_new, stands_new}
use Rattle.tfs_published.proofs.publisher.Publisher.new.Goals as goal

pub new-requires-clause-alike : goal.new-requires-clause-alike
new-requires-clause-alike g c = c.in_ok-first.ensures.value ∙ sym c.in-Ok.ensures.value

pub new-requires-clause-rule : goal.new-requires-clause-rule
new-requires-clause-rule g c =
    let token = c.into_named-history.ensures.value in
    stands_new g.J.Naming.book g.J.Naming.opening c.args.table.now.journal c.into_named-history.result.1 c.in_ok-first.first c.requires.opening
    (ap (λ (t : TokenValue). t.book) token) (ap (λ (t : TokenValue). t.changes) token)
    (ap (λ (t : TokenValue). t.position) token ∙ c.position.ensures.value) (rw token c.mark.ensures.least)
    c.is_kept.ensures.kept.lawful c.in_ok-first.ensures.value

pub invariant_of-result : goal.invariant_of-result
invariant_of-result g c =
    let book = g.J.Naming.book in
    let opening = g.J.Naming.opening in
    let token = c.into_named-history.ensures.value in
    let shown = c.in_ok-writer-2.ensures.shown ∙ (c.in_ok-writer.ensures.0 ∙ c.in_ok-first.ensures.value) in
    let stands = stands_new book opening c.args.table.now.journal c.into_named-history.result.1 c.in_ok-writer-2.writer.desk.shown.value c.requires.opening
    (ap (λ (t : TokenValue). t.book) token) (ap (λ (t : TokenValue). t.changes) token)
    (ap (λ (t : TokenValue). t.position) token ∙ c.position.ensures.value) (rw token c.mark.ensures.least)
    c.is_kept.ensures.kept.lawful shown in
    publisher_new book opening c.into_named-history.result.1 c.in_ok-writer-2.writer.desk.shown.value _ stands (ap (λ v. v.token) shown)
    c.in_ok-writer-2.ensures.pending
