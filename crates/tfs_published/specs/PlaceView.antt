-- What contracts see of a place that isn't empty.
use Rattle.std.specs.Prelude.{ℕ, List, Option}
use Rattle.tfs_state.specs.Document.{Document}
use Rattle.tfs_published.specs.declared.view.PlaceView.{PlaceView}

-- A place with a name and the state of that name.
abbrev pub place_with : List ℕ → Option Document → PlaceView
place_with name state = record { name = name; state = state }
