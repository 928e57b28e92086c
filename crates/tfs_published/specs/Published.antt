-- Published copies: the journals that they represent, and how they apply a change.
use Rattle.std.specs.Prelude.{◌≡◌, ℕ, ◌<◌, ◌≤◌, List, [], ◌∷◌, ◌++◌, length, map, get_or, slice_get, slice_set, Option, Some, None, option_map}
use Rattle.std.specs.List.{range_with_len}
use Rattle.logbook.specs.Pages.{Book}
use Rattle.tfs_rules.specs.History.{state_of}
use Rattle.tfs_records.specs.Journal.{EntryValue, Journal, with_entry, position_of, acts_of, names_of}
use Rattle.tfs_published.specs.Change.{ChangeValue, journal_after}
use Rattle.tfs_published.specs.PlaceView.{place_with}
use Rattle.tfs_published.specs.Point.{IsPoint}
use Rattle.tfs_published.specs.Since.{IsSince}
use Rattle.tfs_published.specs.declared.operation.Operation.{Operation}
use Rattle.tfs_published.specs.declared.operation.Operation.TheVariants.{Nothing, Take}
use Rattle.tfs_published.specs.declared.view.PlaceView.{PlaceView}
use Rattle.tfs_published.specs.declared.view.CopyView.{CopyView}
use Rattle.tfs_published.specs.declared.view.UpdateView.{UpdateView}

-- The place that a journal gives a number: the name with this number, with its state; empty if no
-- name has it.
abbrev pub place_given : Journal → ℕ → Option PlaceView
place_given j number = option_map (λ name. place_with name (state_of (acts_of name j))) (slice_get (names_of j) number)

-- The places are the 1,024 that a journal gives, which has at most 1,024 names.
pub record ArePlacesOf (j : Journal) (places : List (Option PlaceView)) : Type 0 where
  pub few : length (names_of j) ≤ 1024
  pub each : places ≡ map (place_given j) (range_with_len 0 1024)

-- A copy represents a journal: it has the journal's places and its position.
pub record IsPublished (copy : CopyView) (j : Journal) : Type 0 where
  pub places : ArePlacesOf j copy.places
  pub position : copy.token.position ≡ position_of j

-- The copy after an update.
abbrev pub updated : CopyView → UpdateView → CopyView
updated copy update = record {
  places = slice_set copy.places update.number (Some update.place);
  since = slice_set copy.since update.number (Some update.token);
  token = update.token;
}

-- The copy after an operation.
abbrev pub absorbed : CopyView → Operation → CopyView
absorbed copy Nothing = copy
absorbed copy (Take update) = updated copy update

-- An update of a copy describes one more entry of its journal: the state that the entry's name has
-- then, at the place of the name's number.
pub record TellsEntry (update : UpdateView) (e : EntryValue) (j : Journal) : Type 0 where
  pub name : update.place.name ≡ e.name
  pub state : update.place.state ≡ state_of (acts_of e.name (with_entry j e))
  pub number : slice_get (names_of (with_entry j e)) update.number ≡ Some e.name
  pub inside : update.number < 1024

-- A copy has 1,024 tokens, and each name has had no acts since the one at its number.
pub record AreSince (book : Book) (opening : Journal) (copy : CopyView) : Type 0 where
  pub wide : length copy.since ≡ 1024
  pub each : (number : ℕ) (name : List ℕ) → slice_get (names_of (journal_after opening copy.token.changes)) number ≡ Some name
      → IsSince book opening copy.token.changes name (get_or copy.since number None)

-- A copy has a token of a table, represents the journal after its changes, and has the token of
-- each name's last change.
pub record StandsFor (book : Book) (opening : Journal) (copy : CopyView) : Type 0 where
  pub point : IsPoint book opening copy.token
  pub places : ArePlacesOf (journal_after opening copy.token.changes) copy.places
  pub since : AreSince book opening copy

-- An update of a copy adds one more change of its history. Its token is one of the table.
pub record TellsChange (opening : Journal) (copy : CopyView) (update : UpdateView) (change : ChangeValue) : Type 0 where
  pub point : IsPoint copy.token.book opening update.token
  pub changes : update.token.changes ≡ copy.token.changes ++ change ∷ []
  pub entry : TellsEntry update change.entry (journal_after opening copy.token.changes)

-- One update is queued, which adds one more change.
pub record Queues (opening : Journal) (copy : CopyView) (queued : List Operation) : Type 0 where
  pub update : UpdateView
  pub change : ChangeValue
  pub one : queued ≡ Take update ∷ []
  pub tells : TellsChange opening copy update change
