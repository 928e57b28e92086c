-- Lemmas about conversations that an error breaks off.
use Rattle.std.proofs.Common.{◌≡◌, ◌⊎◌, ℕ, true, List, [], ◌∷◌, ◌++◌, drop, Option, Some, None}
use Rattle.std.proofs.Common.{refl, sym, ap, ◌∙◌, inl, inr}
use Rattle.std.proofs.Common.{append-nil}
use Rattle.tfs_calls.specs.declared.refusal.Refusal.{Refusal}
use Rattle.tfs_calls.specs.Refusal.{refusal_value}
use Rattle.tfs_calls.specs.Reply.{refused}
use Rattle.tfs_framing.specs.Request.{RequestValue}
use Rattle.tfs_framing.specs.Form.{form_of}
use Rattle.tfs_framing.specs.Framing.{BeginsWith, framing_refusal}
use Rattle.tfs_http.specs.ReplyText.{reply_text}
use Rattle.tfs_conversation.specs.Conversation.{Said, said_text, is_open, Step, AnswersRequest, Exchange, Course, exchange_text, BreaksThere, ComesInReads}
use Rattle.tfs_conversation.specs.Turns.{moment, HasBroken}
use Rattle.tfs_http.specs.Lent.{WritesPart}
use Rattle.tfs_http.specs.declared.fault.ServeFault.{ServeFault}
use Rattle.tfs_http.specs.declared.fault.ServeFault.TheVariants.{Read, Write, NoMemory}
use Rattle.tfs_conversation.proofs.CourseLemmas.{closing_form, course_of, takes_none, takes_refusal, takes_one}
use Rattle.tfs_conversation.proofs.IoLemmas.{Known, Returns}
use Rattle.tfs_conversation.proofs.ConversationLemmas.{moves_reading, moves_writing}

module _ {S : Type 0} (step : Step S) where
  -- An error between messages, while reading or for lack of memory, breaks the conversation off.
  pub broken_between : (desk : S) (from reader : Known) (writer : Option (List ℕ)) (before after : ℕ) (input left more : List ℕ) (fault : ServeFault)
      → Returns from reader more → ComesInReads more before after → BreaksThere (input ++ more) fault before after
      → HasBroken step (moment desk from writer before input) (moment desk reader writer after left) fault
  broken_between desk from reader writer before after input left more fault consumed came breaks =
      moves_reading desk desk from reader writer before after input left more _ consumed came (record {
        course = course_of [] (input ++ more);
        lost = [];
        takes = takes_none step desk (input ++ more) (input ++ more) refl;
        opened = tt;
        text_is = refl;
        comes_at = inl ((refl, refl, refl), breaks);
      })

  -- An error while a reply is written breaks the conversation off. So does a withheld reply, of
  -- which nothing is written.
  pub broken_answering : (old new : S) (reader : Known) (into writer : Option (List ℕ)) (reads : ℕ) (input left : List ℕ) (r : RequestValue) (used : ℕ)
      (reply : Said) (fault : ServeFault) → BeginsWith input r used → left ≡ drop used input → AnswersRequest step old r reply new
      → (w : WritesPart into writer (said_text reply (form_of r)) fault) → (is_open reply ≡ true) ⊎ ((fault ≡ Write) × (w.part ≡ []))
      → HasBroken step (moment old reader into reads input) (moment new reader writer reads left) fault
  broken_answering old new reader into writer reads input left r used reply fault b is answers w opened =
      moves_writing old new reader into writer reads input left w.part _ w.appended (record {
        course = c;
        lost = w.rest;
        takes = takes_one step old new input left r used reply b is answers;
        opened = (by opened, tt);
        text_is = append-nil (exchange_text x ++ []) ∙ append-nil (exchange_text x) ∙ w.split;
        comes_at = inr (w.part, inr ([], x, refl, refl, sym w.split), w.one_of);
      })
    where
      x : Exchange
      x = record { request = r; reply = reply }

      none : List Exchange
      none = []

      c : Course
      c = course_of (x ∷ []) left

      by : (is_open reply ≡ true) ⊎ ((fault ≡ Write) × (w.part ≡ []))
          → (is_open reply ≡ true) ⊎ ((none ≡ []) × ((fault ≡ Write) × (w.rest ≡ exchange_text x) × (c.refusal ≡ None)))
      by (inl o) = inl o
      by (inr p) = inr (refl, (p.0, sym (w.split ∙ ap (λ (t : List ℕ). t ++ w.rest) p.1), refl))

  -- An error while the closing refusal is written breaks the conversation off.
  pub broken_refusing : (desk : S) (reader : Known) (into writer : Option (List ℕ)) (reads : ℕ) (input left : List ℕ) (refusal : Refusal) (fault : ServeFault)
      → framing_refusal input refusal → WritesPart into writer (reply_text (refused (refusal_value refusal)) closing_form) fault
      → HasBroken step (moment desk reader into reads input) (moment desk reader writer reads left) fault
  broken_refusing desk reader into writer reads input left refusal fault is w =
      moves_writing desk desk reader into writer reads input left w.part _ w.appended (record {
        course = record { exchanges = []; rest = input; refusal = Some refusal };
        lost = w.rest;
        takes = takes_refusal step desk (input ++ []) input refusal (append-nil input) is;
        opened = tt;
        text_is = w.split;
        comes_at = inr (w.part, inl (refusal, refl, sym w.split), w.one_of);
      })

-- An error while a text is written isn't one of the reader.
pub no_reading : (into writer : Option (List ℕ)) (text : List ℕ) (fault : ServeFault) → WritesPart into writer text fault → fault ≡ Read → ⊥
no_reading into writer text fault w is = elim w.one_of [
  | inl write ↦ (let wrong : Read ≡ Write = sym is ∙ write.0 in cc)
  | inr memory ↦ (let wrong : Read ≡ NoMemory = sym is ∙ memory.0 in cc)
]
