-- What a copy has of a name.
use Rattle.std.specs.Prelude.{◌≡◌, Option, Some, None, IsSome}
use Rattle.std.specs.Arc.{arc_value}
use Rattle.tfs_state.specs.Document.{Document}
use Rattle.tfs_published.specs.declared.lookup.Lookup.{Lookup}
use Rattle.tfs_published.specs.declared.lookup.Lookup.TheVariants.{NoState, Lost, Kept}

-- The result of looking up a name with this state: that it has none, its version, or that its
-- version is lost.
abbrev pub IsLookup : Lookup → Option Document → Type 0
IsLookup NoState state = state ≡ None
IsLookup (Kept version) state = state ≡ Some (arc_value version)
IsLookup Lost state = IsSome state
