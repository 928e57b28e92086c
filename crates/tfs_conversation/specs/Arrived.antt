-- The next input of a conversation.
use Rattle.std.specs.Prelude.{◌≡◌, ◌⊎◌, ℕ, Option, Some, None, List, [], drop}
use Rattle.tfs_framing.specs.Framing.{BeginsWith, IsUnfinished, framing_refusal}
use Rattle.tfs_conversation.specs.Conversation.{IsReadThrough}
use Rattle.tfs_conversation.specs.declared.input.Arrived.{Arrived}
use Rattle.tfs_conversation.specs.declared.ended.Ended.{Ended}
use Rattle.tfs_conversation.specs.declared.ended.Ended.TheVariants.{Clean, Cut}

-- How input ended: between messages, or inside one.
abbrev pub EndsSo : List ℕ → Ended → Type 0
EndsSo bytes ended = ((ended ≡ Clean) × (bytes ≡ [])) ⊎ ((ended ≡ Cut) × ¬ (bytes ≡ []) × IsUnfinished bytes)

-- The next input, and the bytes left after it.
abbrev pub Arrives : List ℕ → List ℕ → Arrived → Type 0
Arrives bytes left (Arrived.Message r) = (used : ℕ) × BeginsWith bytes r used × (left ≡ drop used bytes)
Arrives bytes left (Arrived.Refused refusal) = framing_refusal bytes refusal
Arrives bytes left (Arrived.Ended ended) = EndsSo bytes ended

-- The next input; or none, and all bytes are left.
abbrev pub ArrivesOrStays : List ℕ → List ℕ → Option Arrived → Type 0
ArrivesOrStays bytes left None = left ≡ bytes
ArrivesOrStays bytes left (Some arrived) = Arrives bytes left arrived

-- If input has ended, the reader is at its end.
abbrev pub EndsThere : Option (List ℕ) → Arrived → Type 0
EndsThere reader (Arrived.Ended ended) = IsReadThrough ended reader
EndsThere reader _ = Unit {0}
