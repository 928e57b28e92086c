-- Lemmas: after an update, a copy represents the journal with the update's entry.
use Rattle.std.proofs.Common.{◌≡◌, ℕ, List, sym, ◌∙◌, ap, subst}
use Rattle.logbook.specs.Pages.{Book}
use Rattle.tfs_rules.specs.History.{state_of}
use Rattle.tfs_records.specs.Journal.{EntryValue, Journal, with_entry, acts_of}
use Rattle.tfs_published.specs.Change.{ChangeValue, journal_after}
use Rattle.tfs_published.specs.PlaceView.{place_with}
use Rattle.tfs_published.specs.Point.{IsPoint}
use Rattle.tfs_published.specs.Published.{ArePlacesOf, updated, TellsEntry, StandsFor, TellsChange}
use Rattle.tfs_published.specs.declared.view.CopyView.{CopyView}
use Rattle.tfs_published.specs.declared.view.UpdateView.{UpdateView}
use Rattle.tfs_published.proofs.Places.{places_after}
use Rattle.tfs_published.proofs.Points.{journal_after_more}
use Rattle.tfs_published.proofs.Since.{since_updated}

-- After the update of an entry, the copy has the places of the journal with that entry.
takes_entry : (copy : CopyView) (j : Journal) (u : UpdateView) (e : EntryValue)
    → ArePlacesOf j copy.places → TellsEntry u e j → ArePlacesOf (with_entry j e) (updated copy u).places
takes_entry copy j u e are tells =
    let place : u.place ≡ place_with e.name (state_of (acts_of e.name (with_entry j e))) =
    ap (λ (n : List ℕ). place_with n u.place.state) tells.name ∙ ap (place_with e.name) tells.state in
    places_after j e copy.places u.number u.place are tells.number tells.inside place

-- After the update of a change, the copy represents the journal after its token's changes, as
-- before.
pub takes_change : (book : Book) (opening : Journal) (copy : CopyView) (u : UpdateView) (change : ChangeValue) → StandsFor book opening copy
    → TellsChange opening copy u change → StandsFor book opening (updated copy u)
takes_change book opening copy u change stands tells =
    let more = ap (journal_after opening) tells.changes ∙ journal_after_more opening copy.token.changes change in
    let point = subst (λ (b : Book). IsPoint b opening u.token) stands.point.same_book tells.point in
    record {
      point = point;
      places = subst (λ (j : Journal). ArePlacesOf j (updated copy u).places) (sym more)
          (takes_entry copy (journal_after opening copy.token.changes) u change.entry stands.places tells.entry);
      since = since_updated book opening copy u change stands.since point tells;
    }
