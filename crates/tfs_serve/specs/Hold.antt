-- Replies that are held back until the journal that they were answered over is durable.
use Rattle.std.specs.Prelude.{◌≤◌, ℕ, ⊤}
use Rattle.tfs_records.specs.Journal.{Journal}
use Rattle.tfs_calls.specs.Reply.{ReplyValue, done, state, impact, refused}
use Rattle.tfs_table.specs.Mark.{mark_of}

-- The bytes of a journal are durable: at least as many first bytes as its mark says.
abbrev pub IsDurable : (ℕ → Type 0) → Journal → Type 0
IsDurable durable j = (mark : ℕ) × (mark_of j ≤ mark) × durable mark

-- The record with this number is for the reply's change, if the reply says that one was accepted.
abbrev pub IsRecord : (ℕ → ℕ → Type 0) → ReplyValue → ℕ → Type 0
IsRecord recorded (done position) number = recorded position number
IsRecord recorded (state d) number = ⊤
IsRecord recorded (impact d chosen position) number = ⊤
IsRecord recorded (refused refusal) number = ⊤

-- The record of the reply's change was made, if the reply says that one was accepted.
abbrev pub IsRecorded : (ℕ → ℕ → Type 0) → (ℕ → Type 0) → ReplyValue → Type 0
IsRecorded recorded made reply = (number : ℕ) × IsRecord recorded reply number × made number
