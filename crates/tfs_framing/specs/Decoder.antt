-- Decoders of requests.
use Rattle.std.specs.Prelude.{◌≡◌, ◌≤◌, ◌<◌, ◌+◌, ◌⊎◌, ◌==◌, ℕ, List, [], length, drop, vec_capacity, Option, Some, None, Result, Ok, Err, IfOk}
use Rattle.std.specs.Allocator.{alloc_error}
use Rattle.std.specs.declared.alloc.AllocError.{AllocError}
use Rattle.tfs_framing.specs.Decoded.{Decodes}
use Rattle.tfs_framing.specs.Parts.{EndsWith}
use Rattle.tfs_framing.specs.Framing.{BeginsWith, IsUnfinished, Opens, framing_refusal}
use Rattle.tfs_framing.specs.Request.{RequestValue}
use Rattle.tfs_framing.specs.Sought.{IsSought}
use Rattle.tfs_calls.specs.declared.refusal.Refusal.{Refusal}
use Rattle.tfs_framing.specs.declared.framing.Framed.{Framed}
use Rattle.tfs_framing.specs.declared.lines.BodyLength.TheVariants.{Sized}
use Rattle.tfs_framing.specs.declared.over.Over.{Over}
use Rattle.tfs_framing.specs.declared.progress.SizedBody.{SizedBody}
use Rattle.tfs_framing.specs.declared.progress.Progress.{Progress}
use Rattle.tfs_framing.specs.declared.framing.Received.{Received}

-- A decoder: bytes after the last message, room for more, undecoded count, and lasting result.
pub record DecoderValue : Type 0 where
  pub bytes : List ℕ
  pub room : ℕ
  pub unused : ℕ
  pub over : Option (Result Received AllocError)

-- A request with a body of known length, and capacity for all of it.
pub record IsApart (bytes : List ℕ) (s : SizedBody) (unused : List ℕ) : Type 0 where
  pub opens : Opens bytes (Ok s.request) (Sized s.size) s.body.items
  pub none : unused ≡ []
  pub within : length s.body.items ≤ s.size
  pub room : s.size ≤ vec_capacity s.body

-- Unfinished bytes or a message.
abbrev pub HasNoRefusal : List ℕ → Type 0
HasNoRefusal bytes = IsUnfinished bytes ⊎ ((r : RequestValue) × (used : ℕ) × BeginsWith bytes r used)

-- The refusal; `None` means lack of memory.
abbrev pub IsReason : List ℕ → Option Refusal → Type 0
IsReason bytes (Some refusal) = framing_refusal bytes refusal
IsReason bytes None = HasNoRefusal bytes

-- The decoder has ended after these bytes.
pub record IsOver (bytes : List ℕ) (o : Over) : Type 0 where
  pub is_empty : o.is_empty ≡ (length bytes == 0)
  pub reason : IsReason bytes o.reason

-- The result of an ended decoder.
abbrev pub last_result : Option Refusal → Result Received AllocError
last_result (Some refusal) = Ok (Received.Refused refusal)
last_result None = Err alloc_error

-- The progress for these bytes; `unused` are undecoded.
abbrev pub IsAt : List ℕ → Progress → List ℕ → Type 0
IsAt bytes (Progress.Head search) unused = (bytes ≡ unused) × IsSought unused search
IsAt bytes (Progress.Sized s) unused = IsApart bytes s unused
IsAt bytes (Progress.Chunks c) unused = Decodes bytes (Ok c.request) c.decoded unused
IsAt bytes (Progress.Over o) unused = IsOver bytes o

-- Room for `room` more bytes.
abbrev pub HasRoomFor : ℕ → Progress → ℕ → Type 0
HasRoomFor room (Progress.Head search) spare = room ≤ spare
HasRoomFor room (Progress.Sized s) spare = length s.body.items + room ≤ s.size
HasRoomFor room (Progress.Chunks c) spare = room ≤ spare
HasRoomFor room (Progress.Over o) spare = room ≡ 0

-- The lasting result of an ended decoder.
abbrev pub over_of : Progress → Option (Result Received AllocError)
over_of (Progress.Head search) = None
over_of (Progress.Sized s) = None
over_of (Progress.Chunks c) = None
over_of (Progress.Over o) = Some (last_result o.reason)

-- The outcome of framing, with the number of bytes left.
abbrev pub IsFramed : List ℕ → List ℕ → Framed → Type 0
IsFramed bytes unused (Framed.Message r left) = (after : List ℕ) × EndsWith unused after
    × (left ≡ length after) × (used : ℕ) × BeginsWith bytes r used × (after ≡ drop used bytes)
IsFramed bytes unused (Framed.Refused refusal) = framing_refusal bytes refusal
IsFramed bytes unused (Framed.More progress left) = IsUnfinished bytes
    × IfOk progress (λ p. (after : List ℕ) × EndsWith unused after
    × (left ≡ length after) × (left < 17408) × IsAt bytes p after × (over_of p ≡ None))

-- The result of `next`, and the decoder's new value.
abbrev pub Gives : List ℕ → DecoderValue → Received → Type 0
Gives bytes new (Received.More room) = IsUnfinished bytes × (new.bytes ≡ bytes) × (new.room ≡ room) × (0 < room) × (room ≤ 65536)
    × (new.unused < 17408)
Gives bytes new (Received.Message r) = (used : ℕ) × BeginsWith bytes r used × (new.bytes ≡ drop used bytes)
Gives bytes new (Received.Refused refusal) = framing_refusal bytes refusal

-- The same as `Gives`, by progress and spare room.
abbrev pub Comes : List ℕ → List ℕ → ℕ → Progress → Received → Type 0
Comes bytes unused spare progress (Received.More room) = IsUnfinished bytes × IsAt bytes progress unused
    × HasRoomFor room progress spare × (0 < room) × (room ≤ 65536) × (length unused < 17408)
Comes bytes unused spare progress (Received.Message r) = (used : ℕ) × BeginsWith bytes r used
    × (unused ≡ drop used bytes)
Comes bytes unused spare progress (Received.Refused refusal) = framing_refusal bytes refusal

-- The result, if it lasts.
abbrev pub lasting : Result Received AllocError → Option (Result Received AllocError)
lasting (Ok (Received.More room)) = None
lasting (Ok (Received.Message r)) = None
lasting (Ok (Received.Refused refusal)) = Some (Ok (Received.Refused refusal))
lasting (Err fault) = Some (Err fault)
