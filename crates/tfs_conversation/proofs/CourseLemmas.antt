-- Lemmas about courses: a course after exchanges, and a course of at most one exchange.
use Rattle.std.proofs.Common.{◌≡◌, ◌||◌, ℕ, Bool, true, false, List, [], ◌∷◌, ◌++◌, drop, flat_map, Some, None, refl, sym, ◌∙◌, ap, subst, ◌⊎◌, inl, inr}
use Rattle.std.proofs.Common.{append_assoc, append-nil}
use Rattle.std.proofs.lemmas.List.{map-append}
use Rattle.std.proofs.lemmas.Grind.{flat_map-append}
use Rattle.tfs_calls.specs.declared.refusal.Refusal.{Refusal}
use Rattle.tfs_framing.specs.declared.request.Form.{Form}
use Rattle.tfs_framing.specs.Request.{RequestValue}
use Rattle.tfs_framing.specs.Framing.{BeginsWith, framing_refusal}
use Rattle.tfs_framing.proofs.MessageLemmas.{rest_behind}
use Rattle.tfs_conversation.specs.Messages.{AreMessages, IsRefused, Stop, one_asks}
use Rattle.tfs_conversation.specs.Conversation.{Said, is_open, Step, AreOpen, AnswersRequest, Exchange, requests_of, Runs, Course, messages_of, exchange_text, refusal_text}
use Rattle.tfs_conversation.specs.Conversation.{course_text, TakesCourse}
use Rattle.tfs_conversation.specs.declared.ended.Ended.{Ended}
use Rattle.tfs_conversation.specs.declared.ended.Ended.TheVariants.{Clean, Cut, Asked, Refused}

-- ---- words

-- The texts of replies.
abbrev pub replies_text : List Exchange → List ℕ
replies_text exchanges = flat_map exchange_text exchanges

-- No reply is withheld.
abbrev pub AllOpen : List Exchange → Type 0
AllOpen exchanges = AreOpen (λ x. ⊥) exchanges

-- A course without a refusal.
abbrev pub course_of : List Exchange → List ℕ → Course
course_of exchanges rest = record { exchanges = exchanges; rest = rest; refusal = None }

-- The form of the reply to a refused message.
abbrev pub closing_form : Form
closing_form = record { close = true; bare = false }

-- ---- messages

-- If no request of the first list asks to close, one of both lists does exactly if one of the
-- second does.
asks_behind : (rs ss : List RequestValue) → one_asks rs ≡ false → one_asks (rs ++ ss) ≡ one_asks ss
asks_behind [] ss e = refl
asks_behind (r ∷ rs) ss e = by r.close e (λ f. asks_behind rs ss f)
  where
    by : (v : Bool) → (v || one_asks rs) ≡ false → (one_asks rs ≡ false → one_asks (rs ++ ss) ≡ one_asks ss)
        → (v || one_asks (rs ++ ss)) ≡ one_asks ss
    by true f behind = let wrong : true ≡ false = f in absurd (cc)
    by false f behind = behind f

-- The messages of some bytes, and those of their rest with more bytes, are the messages of all
-- bytes.
messages_then : (bytes rest left more : List ℕ) (rs ss : List RequestValue) → one_asks rs ≡ false → AreMessages bytes rs rest
    → AreMessages (rest ++ more) ss left → AreMessages (bytes ++ more) (rs ++ ss) left
messages_then bytes rest left more [] ss goes_on a b = subst (λ (t : List ℕ). AreMessages (t ++ more) ss left) (sym a) b
messages_then bytes rest left more (r ∷ rs) ss goes_on a b =
    by r.close refl goes_on (λ f. messages_then a.0 rest left more rs ss f a.3 b)
  where
    by : (v : Bool) → r.close ≡ v → (v || one_asks rs) ≡ false
        → (one_asks rs ≡ false → AreMessages (a.0 ++ more) (rs ++ ss) left) → AreMessages (bytes ++ more) (r ∷ (rs ++ ss)) left
    by true is f behind = let wrong : true ≡ false = f in absurd (cc)
    by false is f behind = (
      a.0 ++ more,
      record { frame = a.1.frame; parts = ap (λ t. t ++ more) a.1.parts ∙ append_assoc a.1.frame a.0 more; reads = a.1.reads },
      (λ asks. let wrong : true ≡ false = sym asks ∙ is in absurd (cc)),
      behind f,
    )

-- ---- exchanges

-- The requests of two lists of exchanges, joined, are those of the joined lists.
requests_then : (xs ys : List Exchange) → requests_of (xs ++ ys) ≡ requests_of xs ++ requests_of ys
requests_then xs ys = map-append (λ x. x.request) xs ys

-- The texts of two lists of exchanges, joined, are the text of the joined lists.
pub replies_then : (xs ys : List Exchange) → replies_text (xs ++ ys) ≡ replies_text xs ++ replies_text ys
replies_then xs ys = flat_map-append exchange_text xs ys

-- If no request of the first exchanges asks to close, one of all does exactly if one of the others
-- does.
pub asked_behind : (xs ys : List Exchange) → one_asks (requests_of xs) ≡ false
    → one_asks (requests_of (xs ++ ys)) ≡ one_asks (requests_of ys)
asked_behind xs ys goes_on = ap one_asks (requests_then xs ys) ∙ asks_behind (requests_of xs) (requests_of ys) goes_on

-- If no reply of the first exchanges is withheld, the condition on the last reply of the others is
-- one on the last of all.
pub open_then : (last : Exchange → Type 0) (xs ys : List Exchange) → AllOpen xs → AreOpen last ys → AreOpen last (xs ++ ys)
open_then last [] ys a b = b
open_then last (x ∷ xs) ys a b = (by a.0, open_then last xs ys a.1 b)
  where
    by : (is_open x.reply ≡ true) ⊎ ((xs ≡ []) × ⊥) → (is_open x.reply ≡ true) ⊎ ((xs ++ ys ≡ []) × last x)
    by (inl o) = inl o
    by (inr w) = absurd w.1

-- ---- courses

-- The course with exchanges before it.
abbrev pub later : List Exchange → Course → Course
later xs c = record { exchanges = xs ++ c.exchanges; rest = c.rest; refusal = c.refusal }

-- The text of this course is the text of the exchanges, then that of the course.
pub later_text : (xs : List Exchange) (c : Course) → course_text (later xs c) ≡ replies_text xs ++ course_text c
later_text xs c = ap (λ t. t ++ refusal_text c.refusal) (replies_then xs c.exchanges)
    ∙ append_assoc (replies_text xs) (replies_text c.exchanges) (refusal_text c.refusal)

-- This course stops as the course does.
pub stop_later : (xs : List Exchange) (c : Course) (ended : Ended) → one_asks (requests_of xs) ≡ false → Stop (messages_of c) ended
    → Stop (messages_of (later xs c)) ended
stop_later xs c Clean goes_on s = (asked_behind xs c.exchanges goes_on ∙ s.0, s.1, s.2)
stop_later xs c Cut goes_on s = (asked_behind xs c.exchanges goes_on ∙ s.0, s.1, s.2, s.3)
stop_later xs c Asked goes_on s = (asked_behind xs c.exchanges goes_on ∙ s.0, s.1)
stop_later xs c Refused goes_on s = s

module _ {S : Type 0} (step : Step S) where
  -- Running two lists of exchanges, one after the other, runs the joined lists.
  runs_then : (old between new : S) (xs ys : List Exchange) → Runs step old xs between → Runs step between ys new → Runs step old (xs ++ ys) new
  runs_then old between new [] ys a b = subst (λ (o : S). Runs step o ys new) a b
  runs_then old between new (x ∷ xs) ys a b = (a.0, a.1, runs_then a.0 between new xs ys a.2 b)

  -- Exchanges for some bytes, and a course for their rest with more bytes, are a course for all
  -- bytes.
  pub takes_then : (old between new : S) (bytes rest more : List ℕ) (xs : List Exchange) (c : Course) → one_asks (requests_of xs) ≡ false
      → TakesCourse step old between bytes (course_of xs rest) → TakesCourse step between new (rest ++ more) c
      → TakesCourse step old new (bytes ++ more) (later xs c)
  takes_then old between new bytes rest more xs c goes_on s t = record {
    has = record {
      messages = subst (λ (rs : List RequestValue). AreMessages (bytes ++ more) rs c.rest) (sym (requests_then xs c.exchanges))
          (messages_then bytes rest c.rest more (requests_of xs) (requests_of c.exchanges) goes_on s.has.messages t.has.messages);
      refused = subst (λ (v : Bool). IsRefused v c.rest c.refusal)
          (sym (asked_behind xs c.exchanges goes_on)) t.has.refused;
    };
    run = runs_then old between new xs c.exchanges s.run t.run;
  }

  -- Zero exchanges are a course whose rest is all bytes.
  pub takes_none : (desk : S) (bytes rest : List ℕ) → bytes ≡ rest → TakesCourse step desk desk bytes (course_of [] rest)
  takes_none desk bytes rest is = record { has = record { messages = is; refused = tt }; run = refl }

  -- A refused message is a course without exchanges.
  pub takes_refusal : (desk : S) (bytes rest : List ℕ) (refusal : Refusal) → bytes ≡ rest → framing_refusal rest refusal
      → TakesCourse step desk desk bytes (record { exchanges = []; rest = rest; refusal = Some refusal })
  takes_refusal desk bytes rest refusal is refused = record { has = record { messages = is; refused = (refl, refused) }; run = refl }

  -- One answered message is a course of one exchange.
  pub takes_one : (old new : S) (input left : List ℕ) (r : RequestValue) (used : ℕ) (reply : Said) → BeginsWith input r used
      → left ≡ drop used input → AnswersRequest step old r reply new
      → TakesCourse step old new (input ++ []) (course_of (record { request = r; reply = reply } ∷ []) left)
  takes_one old new input left r used reply b is answers = record {
    has = record {
      messages = (
        left,
        record {
          frame = b.frame;
          parts = append-nil input ∙ b.parts ∙ ap (λ t. b.frame ++ t) (sym (rest_behind input left r used b is));
          reads = b.reads;
        },
        (λ asks. refl),
        refl,
      );
      refused = tt;
    };
    run = (new, answers, refl);
  }
