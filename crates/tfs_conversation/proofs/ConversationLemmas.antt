-- Lemmas about conversations: one more read, one more message, and each way to end.
use Rattle.std.proofs.Common.{◌≡◌, ℕ, Bool, true, false, List, [], ◌∷◌, ◌++◌, drop, Option, Some, None, IfSome, if◌then◌else◌}
use Rattle.std.proofs.Common.{refl, sym, ◌∙◌, ap, subst, inl, inr}
use Rattle.std.proofs.Common.{append_assoc, append-nil}
use Rattle.std.specs.Io.KnownBytes.{Appends}
use Rattle.tfs_calls.specs.declared.refusal.Refusal.{Refusal}
use Rattle.tfs_calls.specs.Refusal.{refusal_value}
use Rattle.tfs_calls.specs.Reply.{refused}
use Rattle.tfs_framing.specs.Request.{RequestValue}
use Rattle.tfs_framing.specs.Form.{form_of}
use Rattle.tfs_framing.specs.Framing.{BeginsWith, framing_refusal}
use Rattle.tfs_http.specs.ReplyText.{reply_text}
use Rattle.tfs_conversation.specs.Messages.{Stop}
use Rattle.tfs_conversation.specs.Arrived.{EndsSo}
use Rattle.tfs_conversation.specs.Conversation.{Said, said_text, is_open, Step, AnswersRequest, Course, messages_of, course_text, TakesCourse}
use Rattle.tfs_conversation.specs.Conversation.{IsReadThrough, ComesInReads}
use Rattle.tfs_conversation.specs.Turns.{Moment, moment, Moves, Went, HasEnded, HasBroken, HasStopped}
use Rattle.tfs_http.specs.declared.fault.ServeFault.{ServeFault}
use Rattle.tfs_conversation.specs.declared.ended.Ended.{Ended}
use Rattle.tfs_conversation.specs.declared.ended.Ended.TheVariants.{Asked, Refused}
use Rattle.tfs_conversation.proofs.IoLemmas.{Known, Returns, returns_more, returns_nothing, comes_more, comes_nothing}
use Rattle.tfs_http.proofs.OutputLemmas.{appends_more, appends_nothing}
use Rattle.tfs_conversation.proofs.CourseLemmas.{closing_form, course_of, replies_text, later, later_text, replies_then, asked_behind, open_then, stop_later, takes_then, takes_none, takes_refusal, takes_one}
use Rattle.tfs_conversation.proofs.FaultLemmas.{comes_later}

-- What was read and written in two steps was read and written in both together.
pub moves_then : {S : Type 0} (a b c : Moment S) (P Q R : List ℕ → List ℕ → Type 0) (w : Moves a b P) (v : Moves b c Q)
    → R (a.input ++ (w.more ++ v.more)) (w.text ++ v.text) → Moves a c R
moves_then a b c P Q R w v does =
    let read = returns_more a.reader b.reader c.reader w.more v.more (w.consumed, w.taken) (v.consumed, v.taken) in
    record {
      more = w.more ++ v.more;
      text = w.text ++ v.text;
      consumed = read.0;
      taken = read.1;
      appended = appends_more a.writer b.writer c.writer w.text v.text w.appended v.appended;
      came = comes_more w.more v.more a.reads b.reads c.reads w.came v.came;
      does = does;
    }

-- Bytes were read, and nothing was written.
pub moves_reading : {S : Type 0} (desk new : S) (from reader : Known) (writer : Option (List ℕ)) (before after : ℕ) (input left more : List ℕ)
    (P : List ℕ → List ℕ → Type 0) → Returns from reader more → ComesInReads more before after → P (input ++ more) []
    → Moves (moment desk from writer before input) (moment new reader writer after left) P
moves_reading desk new from reader writer before after input left more P consumed came does =
    record { more = more; text = []; consumed = consumed.0; taken = consumed.1; appended = appends_nothing writer; came = came; does = does }

-- A text was written, and nothing was read.
pub moves_writing : {S : Type 0} (desk new : S) (reader : Known) (into writer : Option (List ℕ)) (reads : ℕ) (input left text : List ℕ)
    (P : List ℕ → List ℕ → Type 0) → Appends into writer text → P (input ++ []) text
    → Moves (moment desk reader into reads input) (moment new reader writer reads left) P
moves_writing desk new reader into writer reads input left text P appended does =
    record { more = []; text = text; consumed = (returns_nothing reader).0; taken = (returns_nothing reader).1; appended = appended; came = comes_nothing reads; does = does }

-- If the conversation continues after a reply, the request didn't ask to close.
pub not_asked : (asks : Bool) (end : Option Ended) → end ≡ (if asks then Some Asked else None) → end ≡ None → asks ≡ false
not_asked true end is none = let wrong : Some Asked ≡ None = sym is ∙ none in absurd (cc)
not_asked false end is none = refl

-- If the conversation ends after a reply, the request asked to close.
pub asked_ends : (P : Ended → Type 0) (asks : Bool) (end : Option Ended) → end ≡ (if asks then Some Asked else None) → (asks ≡ true → P Asked)
    → IfSome end P
asked_ends P true end is so = subst (λ (o : Option Ended). IfSome o P) (sym is) (so refl)
asked_ends P false end is so = subst (λ (o : Option Ended). IfSome o P) (sym is) tt

module _ {S : Type 0} (step : Step S) where
  -- The exchanges of a turn and a course after it are a course from the start of the turn.
  takes_later : (a b : Moment S) (w : Went step a b) (new : S) (more : List ℕ) (c : Course) → TakesCourse step b.desk new (b.input ++ more) c
      → TakesCourse step a.desk new (a.input ++ (w.more ++ more)) (later w.does.exchanges c)
  takes_later a b w new more c t =
      subst (λ (bytes : List ℕ). TakesCourse step a.desk new bytes (later w.does.exchanges c)) (append_assoc a.input w.more more)
      (takes_then step a.desk b.desk new (a.input ++ w.more) b.input more w.does.exchanges c w.does.goes_on w.does.takes t)

  -- The text of this course is the text of the turn, then that of the later course.
  text_later : (a b : Moment S) (w : Went step a b) (c : Course) → course_text (later w.does.exchanges c) ≡ w.text ++ course_text c
  text_later a b w c = later_text w.does.exchanges c ∙ ap (λ t. t ++ course_text c) (sym w.does.text_is)

  -- Two turns, one after the other, are a turn.
  pub went_then : (a b c : Moment S) → Went step a b → Went step b c → Went step a c
  went_then a b c w v = moves_then a b c _ _ _ w v (record {
    exchanges = w.does.exchanges ++ v.does.exchanges;
    takes = takes_later a b w c.desk v.more (course_of v.does.exchanges c.input) v.does.takes;
    goes_on = asked_behind w.does.exchanges v.does.exchanges w.does.goes_on ∙ v.does.goes_on;
    opened = open_then _ w.does.exchanges v.does.exchanges w.does.opened v.does.opened;
    text_is = ap (λ t. t ++ v.text) w.does.text_is ∙ ap (λ t. replies_text w.does.exchanges ++ t) v.does.text_is
        ∙ sym (replies_then w.does.exchanges v.does.exchanges);
  })

  -- If the conversation ends after a turn, it ends from the moment before the turn.
  pub went_then_ended : (a b c : Moment S) (ended : Ended) → Went step a b → HasEnded step b c ended → HasEnded step a c ended
  went_then_ended a b c ended w e =
      let d = e.does.0 in
      moves_then a b c _ _ _ w e (
        record {
          course = later w.does.exchanges d.course;
          takes = takes_later a b w c.desk e.more d.course d.takes;
          opened = open_then _ w.does.exchanges d.course.exchanges w.does.opened d.opened;
          stop = stop_later w.does.exchanges d.course ended w.does.goes_on d.stop;
          text_is = ap (λ t. w.text ++ t) d.text_is ∙ sym (text_later a b w d.course);
        },
        e.does.1,
      )

  -- If an error breaks the conversation off after a turn, it does so from the moment before the
  -- turn.
  pub went_then_broken : (a b c : Moment S) (fault : ServeFault) → Went step a b → HasBroken step b c fault → HasBroken step a c fault
  went_then_broken a b c fault w e =
      let d = e.does in
      moves_then a b c _ _ _ w e (record {
        course = later w.does.exchanges d.course;
        lost = d.lost;
        takes = takes_later a b w c.desk e.more d.course d.takes;
        opened = open_then _ w.does.exchanges d.course.exchanges w.does.opened d.opened;
        text_is = text_later a b w d.course ∙ ap (λ t. w.text ++ t) d.text_is ∙ sym (append_assoc w.text e.text d.lost);
        comes_at = comes_later fault w.does.exchanges d.course d.lost a.reads b.reads c.reads w.came.counted w.does.goes_on d.comes_at;
      })

  -- If a conversation stops after a turn, it stops from the moment before the turn.
  pub went_then_stopped : (a b c : Moment S) (fault : ServeFault) → Went step a b → HasStopped step b c fault → HasStopped step a c fault
  went_then_stopped a b c fault w s = (went_then_broken a b c fault w s.0, λ is. went_then a b c w (s.1 is))

  -- ---- the turns

  -- If bytes are read, the conversation continues.
  pub went_reading : (desk : S) (from reader : Known) (writer : Option (List ℕ)) (before after : ℕ) (input left more : List ℕ) → left ≡ input ++ more
      → Returns from reader more → ComesInReads more before after → Went step (moment desk from writer before input) (moment desk reader writer after left)
  went_reading desk from reader writer before after input left more is consumed came =
      moves_reading desk desk from reader writer before after input left more _ consumed came
      (record { exchanges = []; takes = takes_none step desk (input ++ more) left (sym is); goes_on = refl; opened = tt; text_is = refl })

  -- From a moment to itself the conversation continues.
  pub went_nowhere : (a : Moment S) → Went step a a
  went_nowhere a = went_reading a.desk a.reader a.reader a.writer a.reads a.reads a.input a.input [] (sym (append-nil a.input))
      (returns_nothing a.reader) (comes_nothing a.reads)

  -- After the reply to a message that doesn't ask to close, the conversation continues.
  pub went_answering : (old new : S) (reader : Known) (into writer : Option (List ℕ)) (reads : ℕ) (input left : List ℕ) (r : RequestValue) (used : ℕ)
      (reply : Said) → BeginsWith input r used → left ≡ drop used input → AnswersRequest step old r reply new → is_open reply ≡ true
      → Appends into writer (said_text reply (form_of r))
      → r.close ≡ false → Went step (moment old reader into reads input) (moment new reader writer reads left)
  went_answering old new reader into writer reads input left r used reply b is answers opened appended goes_on =
      moves_writing old new reader into writer reads input left (said_text reply (form_of r)) _ appended (record {
        exchanges = record { request = r; reply = reply } ∷ [];
        takes = takes_one step old new input left r used reply b is answers;
        goes_on = rw goes_on refl;
        opened = (inl opened, tt);
        text_is = sym (append-nil (said_text reply (form_of r)));
      })

  -- After the reply to a message that asks to close, the conversation ends.
  pub ended_asked : (old new : S) (reader : Known) (into writer : Option (List ℕ)) (reads : ℕ) (input left : List ℕ) (r : RequestValue) (used : ℕ)
      (reply : Said) → BeginsWith input r used → left ≡ drop used input → AnswersRequest step old r reply new → is_open reply ≡ true
      → Appends into writer (said_text reply (form_of r))
      → r.close ≡ true → HasEnded step (moment old reader into reads input) (moment new reader writer reads left) Asked
  ended_asked old new reader into writer reads input left r used reply b is answers opened appended asks =
      moves_writing old new reader into writer reads input left (said_text reply (form_of r)) _ appended (
        record {
          course = course_of (record { request = r; reply = reply } ∷ []) left;
          takes = takes_one step old new input left r used reply b is answers;
          opened = (inl opened, tt);
          stop = (rw asks refl, refl);
          text_is = sym (append-nil (said_text reply (form_of r) ++ []) ∙ append-nil (said_text reply (form_of r)));
        },
        tt,
      )

  -- The end of the input ends the conversation.
  pub ended_with_input : (desk : S) (from reader : Known) (writer : Option (List ℕ)) (before after : ℕ) (input left more : List ℕ) (ended : Ended)
      → Returns from reader more → ComesInReads more before after → EndsSo (input ++ more) ended → IsReadThrough ended reader.0
      → HasEnded step (moment desk from writer before input) (moment desk reader writer after left) ended
  ended_with_input desk from reader writer before after input left more ended consumed came how at_end =
      moves_reading desk desk from reader writer before after input left more _ consumed came (
        record {
          course = course_of [] (input ++ more);
          takes = takes_none step desk (input ++ more) (input ++ more) refl;
          opened = tt;
          stop = elim how [
            | inl p ↦ subst (Stop (messages_of (course_of [] (input ++ more)))) (sym p.0) (refl, p.1, refl)
            | inr p ↦ subst (Stop (messages_of (course_of [] (input ++ more)))) (sym p.0) (refl, p.1, p.2, refl)
          ];
          text_is = refl;
        },
        at_end,
      )

  -- After the reply to a refused message, the conversation ends.
  pub ended_refusing : (desk : S) (reader : Known) (into writer : Option (List ℕ)) (reads : ℕ) (input left : List ℕ) (refusal : Refusal)
      → framing_refusal input refusal → Appends into writer (reply_text (refused (refusal_value refusal)) closing_form)
      → HasEnded step (moment desk reader into reads input) (moment desk reader writer reads left) Refused
  ended_refusing desk reader into writer reads input left refusal is appended =
      moves_writing desk desk reader into writer reads input left (reply_text (refused (refusal_value refusal)) closing_form) _ appended (
        record {
          course = record { exchanges = []; rest = input; refusal = Some refusal };
          takes = takes_refusal step desk (input ++ []) input refusal (append-nil input) is;
          opened = tt;
          stop = (refusal, refl);
          text_is = refl;
        },
        tt,
      )
