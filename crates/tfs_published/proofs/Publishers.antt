-- Lemmas: both halves of a change keep the invariant of a publisher.
use Rattle.std.proofs.Common.{◌≡◌, ◌<◌, ◌≤◌, List, [], ◌∷◌, ◌++◌, slice_get, map, Option, Some, None, option_map}
use Rattle.std.proofs.Common.{refl, sym, ◌∙◌, ap, subst, arith, replicate, length}
use Rattle.std.proofs.lemmas.List.{length-replicate, get_or-replicate}
use Rattle.std.proofs.lemmas.Option.{slice_get_within}
use Rattle.std.specs.List.{range_with_len}
use Rattle.logbook.specs.Pages.{Book}
use Rattle.tfs_rules.specs.History.{state_of}
use Rattle.tfs_records.specs.Journal.{Journal, with_entry, position_of, acts_of, names_of}
use Rattle.tfs_table.specs.Lawful.{IsLawful}
use Rattle.tfs_table.specs.Mark.{mark_of}
use Rattle.tfs_published.specs.Publisher.{IsPublisher, IsQueue}
use Rattle.tfs_published.specs.Change.{ChangeValue, journal_after}
use Rattle.tfs_published.specs.PlaceView.{place_with}
use Rattle.tfs_published.specs.Point.{IsPoint}
use Rattle.tfs_published.specs.Published.{TellsChange, Queues, ArePlacesOf, AreSince, StandsFor, updated, place_given}
use Rattle.tfs_published.specs.Since.{IsSince}
use Rattle.tfs_published.specs.Token.{TokenValue, token_with}
use Rattle.tfs_published.specs.declared.operation.Operation.{Operation}
use Rattle.tfs_published.specs.declared.operation.Operation.TheVariants.{Take}
use Rattle.tfs_published.specs.declared.view.CopyView.{CopyView}
use Rattle.tfs_published.specs.declared.view.PlaceView.{PlaceView}
use Rattle.tfs_published.specs.declared.view.UpdateView.{UpdateView}
use Rattle.tfs_published.proofs.Points.{no_changes, point_new, point_more}
use Rattle.tfs_published.proofs.Taken.{takes_change}

-- If its token and its place are those after a change, an update describes the change.
tells_change : (book : Book) (opening : Journal) (copy : CopyView) (update : UpdateView) (change : ChangeValue) → StandsFor book opening copy
    → update.place ≡ place_with change.entry.name change.state → update.number < 1024 → update.token ≡ token_with copy.token change
    → slice_get (names_of (with_entry (journal_after opening copy.token.changes) change.entry)) update.number ≡ Some change.entry.name
    → change.state ≡ state_of (acts_of change.entry.name (with_entry (journal_after opening copy.token.changes) change.entry))
    → IsLawful (with_entry (journal_after opening copy.token.changes) change.entry) → TellsChange opening copy update change
tells_change book opening copy update change stands place inside next number state lawful = record {
  point = subst (λ (b : Book). IsPoint b opening update.token) (sym stands.point.same_book)
      (subst (λ (t : TokenValue). IsPoint book opening t) (sym next) (point_more book opening copy.token change stands.point lawful));
  changes = ap (λ (t : TokenValue). t.changes) next;
  entry = record {
    name = ap (λ (p : PlaceView). p.name) place;
    state = ap (λ (p : PlaceView). p.state) place ∙ state;
    number = number;
    inside = inside;
  };
}

-- The invariant of a publisher holds of equal parts.
pub publisher_along : (book : Book) (opening : Journal) (newest : TokenValue) (next next' : Option TokenValue) (shown shown' : Option CopyView)
    (queued queued' : Option (List Operation))
    → IsPublisher book opening newest next shown queued → next ≡ next' → shown ≡ shown' → queued ≡ queued'
    → IsPublisher book opening newest next' shown' queued'
publisher_along book opening newest next next' shown shown' queued queued' publisher is_next is_shown is_queued =
    subst (λ (n : Option TokenValue). IsPublisher book opening newest n shown' queued') is_next
    (subst (λ (s : Option CopyView). IsPublisher book opening newest next s queued') is_shown
    (subst (λ (q : Option (List Operation)). IsPublisher book opening newest next shown q) is_queued publisher))

-- The newest token of a publisher is one of the table.
pub publisher_point : (book : Book) (opening : Journal) (newest : TokenValue) (next : Option TokenValue) (shown : Option CopyView)
    (queued : Option (List Operation))
    → IsPublisher book opening newest next shown queued → IsPoint book opening newest
publisher_point book opening newest next shown queued publisher =
    subst (λ (t : TokenValue). IsPoint book opening t) publisher.newest_is publisher.stands.point

-- Without a next journal there is no next token.
pub no_next : (opening : Journal) (next : Option TokenValue) → option_map (λ (t : TokenValue). journal_after opening t.changes) next ≡ None → next ≡ None
no_next opening None is = refl
no_next opening (Some token) is = absurd (cc is)

-- If the update of a change is queued, it leads to the next token, and the invariant holds.
pub publisher_staged : (book : Book) (opening : Journal) (newest token : TokenValue) (shown : CopyView) (before after : List Operation) (update : UpdateView)
    (change : ChangeValue)
    → IsPublisher book opening newest None (Some shown) (Some before) → after ≡ before ++ Take update ∷ []
    → token ≡ token_with newest change → update.token ≡ token
    → update.place ≡ place_with change.entry.name change.state
    → slice_get (names_of (with_entry (journal_after opening newest.changes) change.entry)) update.number ≡ Some change.entry.name → update.number < 1024
    → change.state ≡ state_of (acts_of change.entry.name (with_entry (journal_after opening newest.changes) change.entry))
    → (IsLawful (journal_after opening newest.changes) → IsLawful (with_entry (journal_after opening newest.changes) change.entry))
    → IsPublisher book opening newest (Some token) (Some shown) (Some after)
publisher_staged book opening newest token shown before after update change publisher is more next place number inside state entered =
    let same : publisher.copy ≡ shown = cc (publisher.shows) in
    let none : before ≡ [] = publisher.queue in
    let newest_is : shown.token ≡ newest = subst (λ (c : CopyView). c.token ≡ newest) same publisher.newest_is in
    let stands : StandsFor book opening shown = subst (λ (c : CopyView). StandsFor book opening c) same publisher.stands in
    let lawful = entered (publisher_point book opening newest None (Some shown) (Some before) publisher).lawful in
    let tells : TellsChange opening shown update change =
    subst (λ (t : TokenValue). update.token ≡ token_with t change
    → slice_get (names_of (with_entry (journal_after opening t.changes) change.entry)) update.number ≡ Some change.entry.name
    → change.state ≡ state_of (acts_of change.entry.name (with_entry (journal_after opening t.changes) change.entry))
    → IsLawful (with_entry (journal_after opening t.changes) change.entry) → TellsChange opening shown update change) newest_is
    (tells_change book opening shown update change stands place inside) (next ∙ more) number state lawful in
    record {
      copy = shown;
      shows = refl;
      newest_is = newest_is;
      stands = stands;
      queue = (record { update = update; change = change; one = is ∙ ap (λ (us : List Operation). us ++ Take update ∷ []) none; tells = tells }, next);
    }

-- After publishing, readers enter a copy with the next token, nothing is queued, and the invariant
-- holds.
pub publisher_published : (book : Book) (opening : Journal) (newest token : TokenValue) (next : Option TokenValue) (shown after : CopyView)
    (queued rest : List Operation) → IsPublisher book opening newest next (Some shown) (Some queued) → next ≡ Some token
    → ((queues : Queues opening shown queued) → after ≡ updated shown queues.update)
    → rest ≡ [] → IsPublisher book opening token None (Some after) (Some rest)
publisher_published book opening newest token next shown after queued rest publisher is shows none =
    let same : publisher.copy ≡ shown = cc (publisher.shows) in
    let queue : (queues : Queues opening shown queued) × (queues.update.token ≡ token) =
    subst (λ (c : CopyView). IsQueue opening c (Some token) queued) same
    (subst (λ (n : Option TokenValue). IsQueue opening publisher.copy n queued) is publisher.queue) in
    let queues : Queues opening shown queued = queue.0 in
    let stands : StandsFor book opening shown = subst (λ (c : CopyView). StandsFor book opening c) same publisher.stands in
    let kept : IsPublisher book opening token None (Some (updated shown queues.update)) (Some []) = record {
      copy = updated shown queues.update;
      shows = refl;
      newest_is = queue.1;
      stands = takes_change book opening shown queues.update queues.change stands queues.tells;
      queue = refl;
    } in
    subst (λ (us : List Operation). IsPublisher book opening token None (Some after) (Some us)) (sym none)
    (subst (λ (c : CopyView). IsPublisher book opening token None (Some c) (Some [])) (sym (shows queues)) kept)

-- The copy of a journal with a token, none of whose names has changed.
abbrev pub copy_new : Journal → TokenValue → CopyView
copy_new j token = record { places = map (place_given j) (range_with_len 0 1024); since = replicate 1024 None; token = token }

-- No token.
abbrev nothing : Option TokenValue
nothing = None

-- In a copy of the opening journal no name has changed.
since_new : (book : Book) (opening j : Journal) (token : TokenValue) → token.changes ≡ [] → journal_after opening token.changes ≡ j
    → length (names_of j) ≤ 1024 → AreSince book opening (copy_new j token)
since_new book opening j token none is few = record {
  wide = length-replicate 1024 nothing;
  each = λ number name at.
      let there : slice_get (names_of j) number ≡ Some name = subst (λ (k : Journal). slice_get (names_of k) number ≡ Some name) is at in
      let below : number < length (names_of j) = slice_get_within (names_of j) number name there in
      subst (λ (o : Option TokenValue). IsSince book opening token.changes name o) (sym (get_or-replicate 1024 number nothing nothing (omega (arith, below, few))))
      (subst (λ (cs : List ChangeValue). IsSince book opening cs name None) (sym none) (record { begins = ([], refl); same = refl }));
}

-- A copy of the opening journal represents it.
pub stands_new : (book : Book) (opening j : Journal) (token : TokenValue) (copy : CopyView) → j ≡ opening → token.book ≡ book
    → token.changes ≡ [] → token.position ≡ position_of j → mark_of j ≤ token.mark → IsLawful j → copy ≡ copy_new j token
    → StandsFor book opening copy
stands_new book opening j token copy begins same none position mark lawful is =
    let journal : journal_after opening token.changes ≡ j = ap (journal_after opening) none ∙ (no_changes opening ∙ sym begins) in
    subst (λ (c : CopyView). StandsFor book opening c) (sym is) (record {
      point = point_new book opening j token begins same none position mark lawful;
      places = subst (λ (k : Journal). ArePlacesOf k (copy_new j token).places) (sym journal) (record { few = lawful.names; each = refl });
      since = since_new book opening j token none journal lawful.names;
    })

-- A new publisher of the opening journal keeps the invariant.
pub publisher_new : (book : Book) (opening : Journal) (token : TokenValue) (copy : CopyView) (queued : List Operation)
    → StandsFor book opening copy → copy.token ≡ token → queued ≡ [] → IsPublisher book opening token None (Some copy) (Some queued)
publisher_new book opening token copy queued stands newest idle =
    record { copy = copy; shows = refl; newest_is = newest; stands = stands; queue = idle }
