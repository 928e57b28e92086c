-- Lemmas about conversations that are held in turns.
use Rattle.std.proofs.Common.{◌≡◌, ◌≤◌, ◌*◌, ℕ, List, [], ◌∷◌, ◌++◌, length, Result, Ok, Err, IfOk, IfErr, refl, ap, subst, arith, inl, inr, length-append}
use Rattle.std.specs.Io.KnownBytes.{Appends, Consumes}
use Rattle.tfs_framing.specs.Request.{RequestValue}
use Rattle.tfs_conversation.specs.Messages.{AreMessages}
use Rattle.tfs_conversation.specs.Conversation.{Step, Course, BreaksThere, ComesAt, ComesInReads, HasSpoken}
use Rattle.tfs_conversation.specs.Turns.{Moment, Went, HasEnded, HasStopped, HasTurned}
use Rattle.tfs_conversation.specs.declared.ended.Ended.{Ended}
use Rattle.tfs_http.specs.declared.fault.ServeFault.{ServeFault}
use Rattle.tfs_http.specs.declared.fault.ServeFault.TheVariants.{Read, Write, TooManyReads, NoMemory}

-- No more bytes are left after messages than there were.
rest_fits : (bytes : List ℕ) (rs : List RequestValue) (rest : List ℕ) → AreMessages bytes rs rest → length rest ≤ length bytes
rest_fits bytes [] rest is = let same = ap length is in omega arith
rest_fits bytes (r ∷ rs) rest m =
    let behind = rest_fits m.0 rs rest m.3 in
    let all = ap length m.1.parts in
    let parts = length-append m.1.frame m.0 in
    omega arith

-- Bytes that earlier turns left and bytes of this turn came in the reads of all turns.
all_came : (rest more : List ℕ) (before after : ℕ) → length rest ≤ 65536 * before → ComesInReads more before after → ComesInReads (rest ++ more) 0 after
all_came rest more before after few came =
    let counted = came.counted in
    let pace = came.pace in
    let both = length-append rest more in
    record { counted = omega arith; pace = omega arith }

-- An error between messages, counted from the first turn on.
there_since : (rest : List ℕ) (fault : ServeFault) (before after : ℕ) → BreaksThere rest fault before after → BreaksThere rest fault 0 after
there_since rest Read before after p = let less = p.1 in (p.0, omega arith)
there_since rest TooManyReads before after p = p
there_since rest NoMemory before after p = p
there_since rest Write before after p = p

-- The place of an error, counted from the first turn on.
at_since : (fault : ServeFault) (c : Course) (lost : List ℕ) (before after : ℕ) → ComesAt fault c lost before after → ComesAt fault c lost 0 after
at_since fault c lost before after (inl p) = inl (p.0, there_since c.rest fault before after p.1)
at_since fault c lost before after (inr p) = inr p

-- A result that is described in both cases is described.
pub turned : {S : Type 0} (step : Step S) (from to : Moment S) (end : Result Ended ServeFault) → IfOk end (HasEnded step from to)
    → IfErr end (HasStopped step from to) → HasTurned step from to end
turned step from to (Ok ended) ok err = ok
turned step from to (Err fault) ok err = err

-- Bytes were read and a text was written: a conversation of all bytes since the first turn that
-- belong to no message answered before.
abbrev pub Speaks : {S : Type 0} → Step S → Moment S → Moment S → List ℕ → Type 0
Speaks step from to rest = (bytes : List ℕ) × (text : List ℕ) × Consumes from.reader.0 to.reader.0 bytes × Appends from.reader.1 to.reader.1 bytes
    × Appends from.writer to.writer text × HasSpoken step from.desk to.desk (rest ++ bytes) text

module _ {S : Type 0} (step : Step S) (from to : Moment S) (few : length from.input ≤ 65536 * from.reads) where
  -- What a turn leaves came in the reads so far.
  pub left_fits : Went step from to → length to.input ≤ 65536 * to.reads
  left_fits w =
      let fits = rest_fits (from.input ++ w.more) _ to.input w.does.takes.has.messages in
      let came = all_came from.input w.more from.reads to.reads few w.came in
      let pace = came.pace in
      omega arith

  -- So did what a turn leaves that an error of the reader broke off.
  pub unread_fits : (end : Result Ended ServeFault) → end ≡ Err Read → IfErr end (HasStopped step from to) → length to.input ≤ 65536 * to.reads
  unread_fits end is stopped = left_fits ((subst (λ (r : Result Ended ServeFault). IfErr r (HasStopped step from to)) is stopped).1 refl)

  -- A turn is a conversation of these bytes.
  pub speaks : (end : Result Ended ServeFault) → HasTurned step from to end → Speaks step from to from.input
  speaks (Ok ended) e = (
    e.more,
    e.text,
    e.consumed,
    e.taken,
    e.appended,
    record { reads = to.reads; came = all_came from.input e.more from.reads to.reads few e.came; end = Ok ended; talk = e.does.0 },
  )
  speaks (Err fault) s =
      let b = s.0 in
      let d = b.does in (
        b.more,
        b.text,
        b.consumed,
        b.taken,
        b.appended,
        record {
          reads = to.reads;
          came = all_came from.input b.more from.reads to.reads few b.came;
          end = Err fault;
          talk = record {
            course = d.course;
            lost = d.lost;
            takes = d.takes;
            opened = d.opened;
            text_is = d.text_is;
            comes_at = at_since fault d.course d.lost from.reads to.reads d.comes_at;
          };
        },
      )
