-- The act that a raw change asks for once its texts are read, or its refusal. (Terraform, `http`
-- backend: bodies of lock requests, and `ID` with a write.)
use Rattle.std.specs.Prelude.{◌≡◌, ◌⊎◌, ℕ, ◌≤◌, ◌<◌, List, [], ◌∷◌, length, Bool, true, false, nat_lt, if◌then◌else◌, Option, Some, None}
use Rattle.std.specs.Prelude.{option_map}
use Rattle.std.specs.Option.{option_map_or}
use Rattle.tfs_state.specs.StateText.{document_of, first_state_fault}
use Rattle.tfs_state.specs.declared.fault.StateFault.{StateFault}
use Rattle.tfs_state.specs.declared.fault.StateFault.TheVariants as state_fault
use Rattle.tfs_lock.specs.LockText.{lock_info_of, first_lock_fault}
use Rattle.tfs_lock.specs.declared.fault.LockFault.{LockFault}
use Rattle.tfs_lock.specs.declared.fault.LockFault.TheVariants as lock_fault
use Rattle.tfs_rules.specs.Act.{ActValue, lock, unlock, push, delete}
use Rattle.tfs_calls.specs.declared.call.Call.{Call}
use Rattle.tfs_calls.specs.declared.call.Call.TheVariants.{Read, Change, Impact}
use Rattle.tfs_calls.specs.declared.call.Raw.{Raw}
use Rattle.tfs_calls.specs.declared.call.Raw.TheVariants.{Lock, Unlock, Push, Delete}
use Rattle.tfs_calls.specs.Refusal.{RefusalValue, bad_lock_info, bad_state, too_many_instances, out_of_memory}

-- The identifier that a text gives: none if there is no text, or an empty one.
abbrev pub id_given : Option (List ℕ) → Option (List ℕ)
id_given None = None
id_given (Some []) = None
id_given (Some (byte ∷ bytes)) = Some (byte ∷ bytes)

-- The text is longer than an identifier may be: over 256 bytes.
abbrev pub is_too_long : Option (List ℕ) → Bool
is_too_long None = false
is_too_long (Some text) = nat_lt 256 (length text)

-- The act that a raw change asks for; none if a text is too long, or a body isn't valid.
abbrev pub act_of : Raw → Option ActValue
act_of (Lock body) = option_map lock (lock_info_of body)
act_of (Unlock [] text) = if is_too_long text then None else Some (unlock (id_given text))
act_of (Unlock (byte ∷ bytes) text) = option_map (λ info. unlock (Some info.id)) (lock_info_of (byte ∷ bytes))
act_of (Push text body) = if is_too_long text then None else option_map (push (id_given text)) (document_of body)
act_of (Delete text) = if is_too_long text then None else Some (delete (id_given text))

-- The refusal for a fault of a lock text.
abbrev pub lock_refusal : LockFault → RefusalValue
lock_refusal lock_fault.NotJson = bad_lock_info
lock_refusal lock_fault.NotObject = bad_lock_info
lock_refusal lock_fault.NoId = bad_lock_info
lock_refusal lock_fault.TooLong = bad_lock_info
lock_refusal lock_fault.NoMemory = out_of_memory

-- The refusal for a fault of a state text.
abbrev pub state_refusal : StateFault → RefusalValue
state_refusal state_fault.NotJson = bad_state
state_refusal state_fault.Version = bad_state
state_refusal state_fault.Serial = bad_state
state_refusal state_fault.Lineage = bad_state
state_refusal (state_fault.Resource i) = bad_state
state_refusal (state_fault.Instance i j) = bad_state
state_refusal (state_fault.Dependency i j k) = bad_state
state_refusal state_fault.TooManyInstances = too_many_instances
state_refusal state_fault.NoMemory = out_of_memory

-- The refusal of a body that is no lock text, by its first fault.
abbrev pub lock_text_refusal : List ℕ → RefusalValue
lock_text_refusal body = option_map_or lock_refusal (first_lock_fault body) bad_lock_info

-- The refusal of a body that is no state text, by its first fault.
abbrev pub state_text_refusal : List ℕ → RefusalValue
state_text_refusal body = option_map_or state_refusal (first_state_fault body) bad_state

-- The refusal of a raw change that has no act. For a push, the length of its identifier is checked
-- before its body.
abbrev pub draft_refusal : Raw → RefusalValue
draft_refusal (Lock body) = lock_text_refusal body
draft_refusal (Unlock [] text) = bad_lock_info
draft_refusal (Unlock (byte ∷ bytes) text) = lock_text_refusal (byte ∷ bytes)
draft_refusal (Push text body) = if is_too_long text then bad_lock_info else state_text_refusal body
draft_refusal (Delete text) = bad_lock_info

-- A raw change that is read without allocating: it has no body, or is refused before its body is
-- read.
abbrev pub TakesNoMemory : Raw → Type 0
TakesNoMemory (Lock body) = 65536 < length body
TakesNoMemory (Unlock body text) = (body ≡ []) ⊎ (65536 < length body)
TakesNoMemory (Push text body) = is_too_long text ≡ true
TakesNoMemory (Delete text) = Unit {0}

-- The body of a push has at most 16 MiB.
abbrev pub HasFittingState : Raw → Type 0
HasFittingState (Lock body) = Unit {0}
HasFittingState (Unlock body text) = Unit {0}
HasFittingState (Push text body) = length body ≤ 16777216
HasFittingState (Delete text) = Unit {0}

-- If a call asks for a push, its body has at most 16 MiB.
abbrev pub CarriesFittingState : Call → Type 0
CarriesFittingState (Read name) = Unit {0}
CarriesFittingState (Change name raw) = HasFittingState raw
CarriesFittingState (Impact name query) = Unit {0}
