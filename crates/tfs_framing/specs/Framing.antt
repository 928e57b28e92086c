-- Message framing (RFC 9112, sections 2.2, 3, 5 and 6).
use Rattle.std.specs.Prelude.{◌≡◌, ℕ, ◌≤◌, ◌<◌, ◌⊎◌, List, ◌++◌, length, Result, Ok, Err, IfOk}
use Rattle.std.specs.declared.alloc.AllocError.{AllocError}
use Rattle.httparse.specs.Grammar.{LineEnd, RequestHead}
use Rattle.tfs_calls.specs.declared.refusal.Refusal.{Refusal}
use Rattle.tfs_calls.specs.declared.refusal.Refusal.TheVariants.{HeadTooLarge, BadHead}
use Rattle.tfs_framing.specs.Head.{HasHead, HasNoHead, IsHeadOf, line_feeds}
use Rattle.tfs_framing.specs.Body.{body_length, SpellsBody, HasBadBody, refusal_of}
use Rattle.tfs_framing.specs.Request.{RequestValue, completed, request_of}
use Rattle.tfs_framing.specs.declared.request.OpenRequest.{OpenRequest}
use Rattle.tfs_framing.specs.declared.lines.BodyLength.{BodyLength}
use Rattle.tfs_framing.specs.declared.chunks.Flaw.{Flaw}
use Rattle.tfs_framing.specs.declared.framing.Take.{Take}
use Rattle.tfs_framing.specs.declared.framing.Take.TheVariants.{Need, Got, Fault}

-- A valid head, with its body's length.
pub record ReadsHead (head : List ℕ) (h : RequestHead) (size : BodyLength) : Type 0 where
  pub lines : line_feeds head ≤ 66
  pub is_head_of : IsHeadOf head h
  pub body : body_length h ≡ Ok size

-- A refused head: too many lines, invalid, or without a valid body length.
abbrev pub IsHeadRefused : List ℕ → Refusal → Type 0
IsHeadRefused head HeadTooLarge = 66 < line_feeds head
IsHeadRefused head BadHead = (line_feeds head ≤ 66) × ((h : RequestHead) → ¬ (IsHeadOf head h))
IsHeadRefused head refusal = (line_feeds head ≤ 66) × (h : RequestHead) × IsHeadOf head h × (body_length h ≡ Err refusal)

-- Exactly one message.
pub record ReadsMessage (frame : List ℕ) (r : RequestValue) : Type 0 where
  pub skipped : List LineEnd
  pub head : List ℕ
  pub coded : List ℕ
  pub has_head : HasHead frame skipped head coded
  pub h : RequestHead
  pub size : BodyLength
  pub reads : ReadsHead head h size
  pub body : List ℕ
  pub spells : SpellsBody size coded body
  pub is_request : r ≡ request_of h body

-- A refused head at the beginning.
pub record HasRefusedHead (bytes : List ℕ) (refusal : Refusal) : Type 0 where
  pub skipped : List LineEnd
  pub head : List ℕ
  pub rest : List ℕ
  pub has_head : HasHead bytes skipped head rest
  pub refused : IsHeadRefused head refusal

-- A valid head and a refused body.
pub record HasRefusedBody (bytes : List ℕ) (refusal : Refusal) : Type 0 where
  pub skipped : List LineEnd
  pub head : List ℕ
  pub rest : List ℕ
  pub has_head : HasHead bytes skipped head rest
  pub h : RequestHead
  pub size : BodyLength
  pub reads : ReadsHead head h size
  pub flaw : Flaw
  pub bad : HasBadBody size rest flaw
  pub refused : refusal ≡ refusal_of flaw

-- No head in the first 16,384 bytes, or a refused head or body.
abbrev pub framing_refusal : List ℕ → Refusal → Type 0
framing_refusal bytes refusal = ((16384 ≤ length bytes) × HasNoHead bytes × (refusal ≡ HeadTooLarge))
    ⊎ (HasRefusedHead bytes refusal ⊎ HasRefusedBody bytes refusal)

-- No message at the beginning, and no refusal.
pub record IsUnfinished (bytes : List ℕ) : Type 0 where
  pub no_message : (frame rest : List ℕ) (r : RequestValue) → bytes ≡ frame ++ rest → ¬ (ReadsMessage frame r)
  pub no_refusal : (refusal : Refusal) → ¬ (framing_refusal bytes refusal)

-- A message of `used` bytes at the beginning.
pub record BeginsWith (bytes : List ℕ) (r : RequestValue) (used : ℕ) : Type 0 where
  pub frame : List ℕ
  pub rest : List ℕ
  pub parts : bytes ≡ frame ++ rest
  pub used_is : length frame ≡ used
  pub reads : ReadsMessage frame r

-- The result of `take`.
abbrev pub Frames : List ℕ → Take → Type 0
Frames bytes Need = IsUnfinished bytes
Frames bytes (Got r used) = BeginsWith bytes r used
Frames bytes (Fault refusal) = framing_refusal bytes refusal

-- A valid head, and the request made from it.
pub record Opens (bytes : List ℕ) (request : Result OpenRequest AllocError) (size : BodyLength)
    (rest : List ℕ) : Type 0 where
  pub skipped : List LineEnd
  pub head : List ℕ
  pub has_head : HasHead bytes skipped head rest
  pub h : RequestHead
  pub reads : ReadsHead head h size
  pub own : IfOk request (λ o. (body : List ℕ) → completed o body ≡ request_of h body)
