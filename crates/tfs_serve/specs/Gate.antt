-- The events that a gate hears.
use Rattle.std.specs.Prelude.{◌≡◌, Bool, List, [], ◌∷◌, ◌++◌, true, false, Option, Some, None}
use Rattle.tfs_calls.specs.declared.call.Call.{Call}
use Rattle.tfs_calls.specs.Reply.{ReplyValue}

-- An event of a gate: it was asked for a connection, and answered; a call, before it is answered; a
-- reply, afterwards.
pub data Event : Type 0 where
  asked : Bool → Event
  before : Call → Event
  after : ReplyValue → Event

-- A gate whose events are known has heard these events too, after the earlier ones.
abbrev pub Hears : Option (List Event) → Option (List Event) → List Event → Type 0
Hears None new events = new ≡ None
Hears (Some old) new events = new ≡ Some (old ++ events)

-- The gate is closed: if its events are known, the last one is that it was asked for a connection
-- and said no.
abbrev pub IsClosed : Option (List Event) → Type 0
IsClosed None = Unit {0}
IsClosed (Some events) = (earlier : List Event) × (events ≡ earlier ++ asked false ∷ [])

-- If its events are known, the last one is that the gate was asked for a connection and said yes.
abbrev pub IsAdmitted : Option (List Event) → Type 0
IsAdmitted None = Unit {0}
IsAdmitted (Some events) = (earlier : List Event) × (events ≡ earlier ++ asked true ∷ [])
