-- The steps of a conversation.
use Rattle.std.specs.Prelude.{◌≡◌, ◌+◌, ◌-◌, ◌*◌, ℕ, List, ◌++◌, length, flat_map, Option, None, false, Result, MatchResult}
use Rattle.std.specs.Io.KnownBytes.{Appends, Consumes}
use Rattle.tfs_conversation.specs.Conversation.{Step, Exchange, requests_of, exchange_text, AreOpen, TakesCourse, IsReadThrough, ComesInReads, Talks, Breaks}
use Rattle.tfs_conversation.specs.Messages.{one_asks}
use Rattle.tfs_conversation.specs.declared.ended.Ended.{Ended}
use Rattle.tfs_http.specs.declared.fault.ServeFault.{ServeFault}
use Rattle.tfs_http.specs.declared.fault.ServeFault.TheVariants.{Read}

-- Desk, bytes to read and read, bytes written, read count, and unused input.
pub record Moment (S : Type 0) : Type 0 where
  pub desk : S
  pub reader : Option (List ℕ) × Option (List ℕ)
  pub writer : Option (List ℕ)
  pub reads : ℕ
  pub input : List ℕ

abbrev pub moment : {S : Type 0} → S → Option (List ℕ) × Option (List ℕ) → Option (List ℕ) → ℕ → List ℕ → Moment S
moment desk reader writer reads input = record { desk = desk; reader = reader; writer = writer; reads = reads; input = input }

-- Bytes were read and text written between two moments; this holds of all input and the text.
pub record Moves {S : Type 0} (from to : Moment S) (holds : List ℕ → List ℕ → Type 0) : Type 0 where
  pub more : List ℕ
  pub text : List ℕ
  pub consumed : Consumes from.reader.0 to.reader.0 more
  pub taken : Appends from.reader.1 to.reader.1 more
  pub appended : Appends from.writer to.writer text
  pub came : ComesInReads more from.reads to.reads
  pub does : holds (from.input ++ more) text

module _ {S : Type 0} (step : Step S) where
  -- The bytes were answered up to a rest, and no request asked to close.
  pub record HasServed (old new : S) (rest bytes text : List ℕ) : Type 0 where
    pub exchanges : List Exchange
    pub takes : TakesCourse step old new bytes (record { exchanges = exchanges; rest = rest; refusal = None })
    pub goes_on : one_asks (requests_of exchanges) ≡ false
    pub opened : AreOpen (λ x. ⊥) exchanges
    pub text_is : text ≡ flat_map exchange_text exchanges

  -- Between two moments the conversation continues, ends, or is broken off.
  abbrev pub Went : Moment S → Moment S → Type 0
  Went from to = Moves from to (HasServed from.desk to.desk to.input)

  abbrev pub HasEnded : Moment S → Moment S → Ended → Type 0
  HasEnded from to ended = Moves from to (λ bytes text. Talks step from.desk to.desk bytes text ended × IsReadThrough ended to.reader.0)

  abbrev pub HasBroken : Moment S → Moment S → ServeFault → Type 0
  HasBroken from to fault = Moves from to (λ bytes text. Breaks step from.desk to.desk bytes text fault from.reads to.reads)

  -- An error breaks the conversation off. After an error of the reader it can go on.
  abbrev pub HasStopped : Moment S → Moment S → ServeFault → Type 0
  HasStopped from to fault = HasBroken from to fault × (fault ≡ Read → Went from to)

  -- Between two moments a turn of a conversation ends, or an error breaks it off.
  abbrev pub HasTurned : Moment S → Moment S → Result Ended ServeFault → Type 0
  HasTurned from to end = MatchResult end (HasEnded from to) (HasStopped from to)

-- A bound on the steps left: each makes a read or uses at least one byte.
abbrev pub work_left : ℕ → List ℕ → ℕ
work_left reads input = (1048576 - reads) * (65536 + 1) + length input

-- What is left of a conversation that can go on: the bytes that belong to no answered message, and
-- the number of reads so far.
pub record Left : Type 0 where
  pub rest : List ℕ
  pub reads : ℕ
