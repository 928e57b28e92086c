-- The places of a published copy.
use Rattle.std.specs.Prelude.{ℕ, List, Bool, false, Option, Some, None, option_map}
use Rattle.std.specs.Arc.{arc_value}
use Rattle.std.specs.Str.{bytes_eq}
use Rattle.tfs_published.specs.PlaceView.{place_with}
use Rattle.tfs_published.specs.declared.place.Place.{Place}
use Rattle.tfs_published.specs.declared.place.Place.TheVariants.{Empty, Kept, Lost}
use Rattle.tfs_published.specs.declared.view.PlaceView.{PlaceView}

-- The contents of a place, if it isn't empty.
abbrev pub place_view : Place → Option PlaceView
place_view Empty = None
place_view (Kept name version) = Some (place_with name (option_map arc_value version))
place_view (Lost place) = Some place

-- A place has this name.
abbrev pub has_name : List ℕ → Option PlaceView → Bool
has_name name None = false
has_name name (Some place) = bytes_eq place.name name
