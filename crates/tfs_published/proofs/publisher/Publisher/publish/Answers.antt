-- Publishing keeps the invariant of the publisher.
use Rattle.std.proofs.Common.{refl, sym, ◌∙◌, ap, drop, option_map, Some, None}
use Rattle.tfs_published.proofs.Publishers.{publisher_along, publisher_published}
use Rattle.tfs_published.proofs.publisher.Publisher.publish.Goals as goal

pub invariant_of-self-2 : goal.invariant_of-self-2
invariant_of-self-2 g c =
    let book = g.J.Naming.book in
    let opening = g.J.Naming.opening in
    let inside = c.self.inside in
    let token = c.in-Some.token in
    let writer = c.in-Some-take.writer in
    let after = c.publish.result in
    let was = sym c.take-2.ensures.value ∙ c.in-Some-take.is in
    let is = sym c.replace-none.ensures.after in
    let publisher = publisher_along book opening inside.newest inside.next (Some token) _ (Some writer.desk.shown.value) _
    (Some (drop writer.behind writer.log.items))
    c.self.invariant (sym c.take.ensures.value ∙ c.in-Some.is) (ap (option_map (λ w. w.desk.shown.value)) was)
    (ap (option_map (λ w. drop w.behind w.log.items)) was) in
    let done = publisher_published book opening inside.newest token (Some token) writer.desk.shown.value after.desk.shown.value
    (drop writer.behind writer.log.items) (drop after.behind after.log.items) publisher refl c.publish.ensures.value c.publish.ensures.pending in
    publisher_along book opening token None c.take.new.self (Some after.desk.shown.value) _ (Some (drop after.behind after.log.items)) _
    done (sym c.take.ensures.after) (ap (option_map (λ w. w.desk.shown.value)) is) (ap (option_map (λ w. drop w.behind w.log.items)) is)
