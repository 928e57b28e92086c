-- Lemmas about errors: when they occur, and that exchanges before them don't change this.
use Rattle.std.proofs.Common.{◌≡◌, ◌≤◌, ◌<◌, ◌⊎◌, false, ℕ, List, [], ◌∷◌, ◌++◌, sym, ◌∙◌, ap, subst, arith, inl, inr}
use Rattle.std.proofs.Common.{append_assoc}
use Rattle.tfs_framing.specs.Framing.{IsUnfinished}
use Rattle.tfs_conversation.specs.Messages.{one_asks}
use Rattle.tfs_conversation.specs.Conversation.{Exchange, requests_of, Course, IsBetween, BreaksThere, IsLastReply, ComesAt}
use Rattle.tfs_http.specs.declared.fault.ServeFault.{ServeFault}
use Rattle.tfs_http.specs.declared.fault.ServeFault.TheVariants.{Read as ReadFault, Write, TooManyReads, NoMemory}
use Rattle.tfs_conversation.proofs.CourseLemmas.{later, asked_behind}

-- A failed read, or one too many, is an error before the end of a message.
pub reading_breaks : (bytes : List ℕ) (fault : ServeFault) (before after : ℕ) → IsUnfinished bytes
    → ((fault ≡ ReadFault) × (before < after)) ⊎ ((fault ≡ TooManyReads) × (after ≡ 1048576)) → BreaksThere bytes fault before after
reading_breaks bytes fault before after more (inl r) = subst (λ (f : ServeFault). BreaksThere bytes f before after) (sym r.0) (more, r.1)
reading_breaks bytes fault before after more (inr r) = subst (λ (f : ServeFault). BreaksThere bytes f before after) (sym r.0) (more, r.1)

-- With exchanges before it, the last reply is still the last.
last_reply_later : (xs : List Exchange) (c : Course) (text : List ℕ) → IsLastReply c text → IsLastReply (later xs c) text
last_reply_later xs c text (inl last) = inl last
last_reply_later xs c text (inr w) =
    inr (xs ++ w.0, w.1, ap (λ (t : List Exchange). xs ++ t) w.2 ∙ sym (append_assoc xs w.0 (w.1 ∷ [])), w.3, w.4)

-- With exchanges before it, a moment between messages is still between messages.
between_later : (xs : List Exchange) (c : Course) (lost : List ℕ) → one_asks (requests_of xs) ≡ false → IsBetween c lost → IsBetween (later xs c) lost
between_later xs c lost goes_on b = (b.0, b.1, asked_behind xs c.exchanges goes_on ∙ b.2)

-- With reads before it, an error between messages occurs in the same way.
breaks_later : (fault : ServeFault) (bytes : List ℕ) (before between after : ℕ) → before ≤ between → BreaksThere bytes fault between after
    → BreaksThere bytes fault before after
breaks_later ReadFault bytes before between after counted a = (a.0, omega (arith, counted, a.1))
breaks_later Write bytes before between after counted a = a
breaks_later TooManyReads bytes before between after counted a = a
breaks_later NoMemory bytes before between after counted a = a

-- With exchanges before it, an error occurs in the same way.
pub comes_later : (fault : ServeFault) (xs : List Exchange) (c : Course) (lost : List ℕ) (before between after : ℕ) → before ≤ between
    → one_asks (requests_of xs) ≡ false → ComesAt fault c lost between after → ComesAt fault (later xs c) lost before after
comes_later fault xs c lost before between after counted goes_on (inl a) =
    inl (between_later xs c lost goes_on a.0, breaks_later fault c.rest before between after counted a.1)
comes_later fault xs c lost before between after counted goes_on (inr a) = inr (a.0, last_reply_later xs c (a.0 ++ lost) a.1, a.2)
