-- The effect of a conversation's faults on its reader and its writer, and the part of a text that a
-- writer received.
use Rattle.std.specs.Prelude.{◌≡◌, ◌≢◌, ◌⊎◌, ℕ, List, [], ◌++◌, Bool, true, Option, Result, MatchResult}
use Rattle.std.specs.Io.KnownBytes.{Appends}
use Rattle.tfs_http.specs.declared.fault.ServeFault.{ServeFault}
use Rattle.tfs_http.specs.declared.fault.ServeFault.TheVariants.{Read, Write, TooManyReads, NoMemory}

-- Whether the reader has failed after this fault; `failed` says whether it had before.
abbrev pub reading_failed : ServeFault → Bool → Bool
reading_failed Read failed = true
reading_failed Write failed = failed
reading_failed TooManyReads failed = failed
reading_failed NoMemory failed = failed

-- Whether the writer has failed after this fault; `failed` says whether it had before.
abbrev pub writing_failed : ServeFault → Bool → Bool
writing_failed Read failed = failed
writing_failed Write failed = true
writing_failed TooManyReads failed = failed
writing_failed NoMemory failed = failed

-- The reader has failed after the fault `Read`; any other result leaves it as it was.
abbrev pub TellsReader : {A : Type 0} → Result A ServeFault → Bool → Bool → Type 0
TellsReader result old new = MatchResult result (λ _. new ≡ old) (λ fault. new ≡ reading_failed fault old)

-- The writer has failed after the fault `Write`; any other result leaves it as it was.
abbrev pub TellsWriter : {A : Type 0} → Result A ServeFault → Bool → Bool → Type 0
TellsWriter result old new = MatchResult result (λ _. new ≡ old) (λ fault. new ≡ writing_failed fault old)

-- The writer received a prefix of the text, and not all of it.
abbrev pub WritesFront : Option (List ℕ) → Option (List ℕ) → List ℕ → Type 0
WritesFront into writer text = (part : List ℕ) × (rest : List ℕ) × (rest ≢ []) × (text ≡ part ++ rest) × Appends into writer part

-- A fault occurred while the text was written: `Write` after a prefix that isn't the whole text, or
-- `NoMemory` before its first byte.
pub record WritesPart (into writer : Option (List ℕ)) (text : List ℕ) (fault : ServeFault) : Type 0 where
  pub part : List ℕ
  pub rest : List ℕ
  pub split : text ≡ part ++ rest
  pub appended : Appends into writer part
  pub one_of : ((fault ≡ Write) × (rest ≢ [])) ⊎ ((fault ≡ NoMemory) × (part ≡ []))
