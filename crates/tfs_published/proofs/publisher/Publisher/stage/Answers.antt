-- A queued change leads to the next token.
use Rattle.std.proofs.Common.{◌≡◌, ℕ, List, slice_get, refl, sym, ◌∙◌, ap, subst, drop, option_map, Some, None}
use Rattle.std.specs.Arc.{arc_value}
use Rattle.tfs_rules.specs.History.{state_of}
use Rattle.tfs_records.specs.Journal.{Journal, with_entry, acts_of, names_of}
use Rattle.tfs_table.specs.Lawful.{IsLawful}
use Rattle.tfs_published.specs.Change.{change_of}
use Rattle.tfs_published.specs.PlaceView.{place_with}
use Rattle.tfs_published.specs.declared.view.UpdateView.{UpdateView}
use Rattle.tfs_published.proofs.Publishers.{publisher_along, publisher_staged, no_next}
use Rattle.tfs_published.proofs.publisher.Publisher.stage.Goals as goal

pub invariant_of-self-2 : goal.invariant_of-self-2
invariant_of-self-2 g c =
    let book = g.J.Naming.book in
    let opening = g.J.Naming.opening in
    let inside = c.self.inside in
    let ready = c.args.ready.now in
    let entry = ready.entry in
    let writer = c.in-Some.writer in
    let after = c.queue.new.writer in
    let token = c.in-Some-with.token in
    let number = c.number-number.result in
    let version = option_map arc_value c.in_ok-version.version in
    let none = no_next opening inside.next (ap (λ v. v.next) c.self.view_is ∙ c.requires.idle) in
    let publisher = publisher_along book opening inside.newest inside.next None _ (Some writer.desk.shown.value) _ (Some (drop writer.behind writer.log.items))
    c.self.invariant none (ap (option_map (λ w. w.desk.shown.value)) c.in-Some.is) (ap (option_map (λ w. drop w.behind w.log.items)) c.in-Some.is) in
    let update : UpdateView = record { number = number; place = place_with c.name.result.now version; token = token } in
    let place = ap (λ (n : List ℕ). place_with n version) c.name.ensures.value ∙ ap (place_with entry.name) c.in_ok-version.ensures.value in
    let journal = c.requires.journal ∙ sym (ap (λ v. v.journal) c.self.view_is) in
    let state = ap (λ (j : Journal). state_of (acts_of entry.name (with_entry j entry))) journal in
    let at = subst (λ (j : Journal). slice_get (names_of (with_entry j entry)) number ≡ Some entry.name) journal c.number-number.ensures.value in
    let done = publisher_staged book opening inside.newest token writer.desk.shown.value (drop writer.behind writer.log.items)
    (drop after.behind after.log.items)
    update (change_of c.args.maker ready) publisher c.in_default-queue.ensures.ok c.in-Some-with.ensures.value refl place
    at c.number-number.ensures.most state (subst (λ (j : Journal). IsLawful j → IsLawful (with_entry j entry)) journal
    c.in_ok-version.ensures.lawful) in
    publisher_along book opening inside.newest (Some token) (Some token) _ (Some after.desk.shown.value) _ (Some (drop after.behind after.log.items))
    done refl (ap Some (sym c.queue.ensures.shown)) refl
