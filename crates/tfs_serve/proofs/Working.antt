-- Lemmas about sessions that work, and about the events that their gates hear.
use Rattle.std.proofs.Common.{◌≡◌, ℕ, inl, inr, List, [], ◌∷◌, ◌++◌, Option, Some, None, Result, Ok, Err, MatchResult, true, false, refl, sym, ◌∙◌, ap, subst, append_assoc, append-nil}
use Rattle.std.specs.List.{flat_map}
use Rattle.std.proofs.lemmas.Grind.{flat_map-append}
use Rattle.std.proofs.lemmas.List.Elements.{All-nil, All-cons}
use Rattle.tfs_calls.specs.declared.call.Call.{Call}
use Rattle.tfs_conversation.specs.Conversation.{AnswersRequest, Exchange, Said, is_open, Runs, Talks, Breaks, HasSpoken}
use Rattle.tfs_conversation.specs.declared.ended.Ended.{Ended}
use Rattle.tfs_http.specs.declared.fault.ServeFault.{ServeFault}
use Rattle.tfs_connections.specs.declared.written.Written.{Written}
use Rattle.tfs_records.specs.Journal.{Journal}
use Rattle.tfs_shared.specs.View.{SessionView}
use Rattle.tfs_serve.specs.Gate.{Event, asked, before, after, Hears}
use Rattle.tfs_serve.specs.Hold.{IsDurable}
use Rattle.tfs_serve.specs.Session.{HeldStep, reply_said}
use Rattle.tfs_serve.specs.Working.{Answer, heard_of, heard_of_connection, Gives, GivesOn, GivesFirst, AreHeld, IsReplied, AreReplied, HasAnswered, HasConversed, GoesOnWith, nothing_written, HasWorked, HasReplied}

-- A gate that hears no event doesn't change.
hears_nothing : (t : Option (List Event)) → Hears t t []
hears_nothing None = refl
hears_nothing (Some events) = ap Some (sym (append-nil events))

-- A gate that hears some events and then others hears all of them.
hears_then : (a b c : Option (List Event)) (xs ys : List Event) → Hears a b xs → Hears b c ys → Hears a c (xs ++ ys)
hears_then None b c xs ys p q = subst (λ (t : Option (List Event)). Hears t c ys) p q
hears_then (Some events) b c xs ys p q =
    subst (λ (t : Option (List Event)). Hears t c ys) p q ∙ ap Some (append_assoc events xs ys)

-- A list of events may be replaced by an equal one.
heard_as : (a b : Option (List Event)) (xs ys : List Event) → xs ≡ ys → Hears a b xs → Hears a b ys
heard_as a b xs ys is h = subst (Hears a b) is h

-- A session that gives some answers and then others gives all of them.
pub gives_then : (o : Journal) (a b c : SessionView) (xs ys : List Answer) → Gives o a xs b → Gives o b ys c → Gives o a (xs ++ ys) c
gives_then o a b c [] ys p q = subst (λ (v : SessionView). Gives o v ys c) p q
gives_then o a b c (x ∷ xs) ys p q = (p.0, p.1, p.2, gives_then o p.0 b c xs ys p.3 q)

-- A session that gives answers on connections and then on one more gives them on all.
gives_on_then : (o : Journal) (a b c : SessionView) (connections : List (List Answer)) (answers : List Answer) → GivesOn o a connections b
    → Gives o b answers c → GivesOn o a (connections ++ answers ∷ []) c
gives_on_then o a b c [] answers p q = (c, subst (λ (v : SessionView). Gives o v answers c) p q, refl)
gives_on_then o a b c (x ∷ xs) answers p q = (p.0, p.1, gives_on_then o p.0 b c xs answers p.2 q)

-- The steps of a desk that holds its replies back, over a session and a gate.
module _ {S : Type 0} (step : S → Call → Said → S → Type 0) (durable : ℕ → Type 0) (o : Journal) (session : S → SessionView)
    (told : S → Option (List Event)) (steps : (old new : S) (call : Call) (said : Said) → step old call said new
    → HeldStep durable o (session old) call said (session new) × Hears (told old) (told new) (before call ∷ after (reply_said said) ∷ [])) where
  -- The desk has answered calls with the replies of these exchanges, and those that may be written
  -- are over durable journals.
  pub record HasRun (old new : S) (exchanges : List Exchange) : Type 0 where
    pub answered : HasAnswered o (told old) (told new) (session old) (session new)
    pub held : AreHeld durable answered.answers
    pub gives : Runs GivesFirst answered.answers exchanges []

  -- A desk that didn't change before it answered has answered all of the exchanges.
  run_on : (old between new : S) (x : Exchange) (xs : List Exchange) → between ≡ old
      → ((answers : List Answer) → AnswersRequest GivesFirst answers x.request x.reply answers) → HasRun between new xs → HasRun old new (x ∷ xs)
  run_on old between new x xs is same run = subst (λ (s : S). HasRun s new (x ∷ xs)) is (record {
    answered = run.answered;
    held = run.held;
    gives = (run.answered.answers, same run.answered.answers, run.gives);
  })

  -- A desk that runs through exchanges has answered them.
  pub has_run : (old new : S) (xs : List Exchange) → Runs step old xs new → HasRun old new xs
  has_run old new [] run = record {
    answered = record { answers = []; heard = subst (λ (s : S). Hears (told old) (told s) []) (sym run) (hears_nothing (told old)); gives = ap session run };
    held = All-nil (λ (a : Answer). a.opened ≡ true → IsDurable durable a.seen);
    gives = refl;
  }
  has_run old new (x ∷ xs) run = by run.1 (has_run run.0 new xs run.2)
    where
      by : AnswersRequest step old x.request x.reply run.0 → HasRun run.0 new xs → HasRun old new (x ∷ xs)
      by (inl a) rest = run_on old run.0 new x xs a.3 (λ answers. inl (a.0, a.1, a.2, refl)) rest
      by (inr (inl a)) rest = run_on old run.0 new x xs a.1 (λ answers. inr (inl (a.0, refl, a.2))) rest
      by (inr (inr a)) rest =
          let one = steps old run.0 a.0 x.reply a.2 in
          let seen = (session run.0).journal in
          let first : Answer = record { call = a.0; reply = reply_said x.reply; opened = is_open x.reply; seen = seen } in
          record {
            answered = record {
              answers = first ∷ rest.answered.answers;
              heard = hears_then (told old) (told run.0) (told new) _ _ one.1 rest.answered.heard;
              gives = (session run.0, one.0.step, refl, rest.answered.gives);
            };
            held = All-cons (λ (b : Answer). b.opened ≡ true → IsDurable durable b.seen) first rest.answered.answers one.0.held rest.held;
            gives = (rest.answered.answers, inr (inr (a.0, a.1, (seen, refl))), rest.gives);
          }

  -- After a conversation over the desk, the session has answered calls, and the text is of their
  -- replies.
  pub conversed : (old new : S) (bytes text : List ℕ) → HasSpoken step old new bytes text
      → HasConversed durable o (told old) (told new) (session old) (session new) bytes text
  conversed old new bytes text t = by t.end t.talk
    where
      by : (end : Result Ended ServeFault)
          → MatchResult end (λ ended. Talks step old new bytes text ended) (λ fault. Breaks step old new bytes text fault 0 t.reads)
          → HasConversed durable o (told old) (told new) (session old) (session new) bytes text
      by (Ok ended) c = let run = has_run old new c.course.exchanges c.takes.run in record {
        answered = run.answered;
        replied = record {
          held = run.held;
          talked = record {
            reads = t.reads;
            came = t.came;
            end = Ok ended;
            talk = record {
              course = c.course;
              takes = record { has = c.takes.has; run = run.gives };
              opened = c.opened;
              stop = c.stop;
              text_is = c.text_is;
            };
          };
        };
      }
      by (Err fault) b = let run = has_run old new b.course.exchanges b.takes.run in record {
        answered = run.answered;
        replied = record {
          held = run.held;
          talked = record {
            reads = t.reads;
            came = t.came;
            end = Err fault;
            talk = record {
              course = b.course;
              lost = b.lost;
              takes = record { has = b.takes.has; run = run.gives };
              opened = b.opened;
              text_is = b.text_is;
              comes_at = b.comes_at;
            };
          };
        };
      }

-- Appending a connection, the bytes read from it and the text written to it gives connections with
-- their bytes and texts.
replied_then : (durable : ℕ → Type 0) (connections : List (List Answer)) (read texts : List (List ℕ)) (answers : List Answer) (bytes text : List ℕ)
    → AreReplied durable connections read texts → IsReplied durable answers bytes text
    → AreReplied durable (connections ++ answers ∷ []) (read ++ bytes ∷ []) (texts ++ text ∷ [])
replied_then durable [] read texts answers bytes text p q =
    subst (λ (r : List (List ℕ)). AreReplied durable (answers ∷ []) (r ++ bytes ∷ []) (texts ++ text ∷ [])) (sym p.0)
    (subst (λ (t : List (List ℕ)). AreReplied durable (answers ∷ []) (bytes ∷ []) (t ++ text ∷ [])) (sym p.1) (q, (refl, refl)))
replied_then durable (a ∷ connections) [] texts answers bytes text p q = absurd p
replied_then durable (a ∷ connections) (b ∷ read) [] answers bytes text p q = absurd p
replied_then durable (a ∷ connections) (b ∷ read) (t ∷ texts) answers bytes text p q =
    (p.0, replied_then durable connections read texts answers bytes text p.1 q)

-- What was read and written goes on with that of some connections, and then with that of others.
goes_on_then : (from mid to : Written) (read texts more later : List (List ℕ)) → GoesOnWith from mid read texts → GoesOnWith mid to more later
    → GoesOnWith from to (read ++ more) (texts ++ later)
goes_on_then from mid to read texts more later p q = record {
  has_read = q.has_read ∙ ap (λ (l : List (List ℕ)). l ++ more) p.has_read ∙ append_assoc from.read read more;
  has_written = q.has_written ∙ ap (λ (l : List (List ℕ)). l ++ later) p.has_written ∙ append_assoc from.texts texts later;
}

-- If the gate admits one more connection, and calls are answered on it, the session has worked on
-- it.
pub worked_on : (o : Journal) (t u v w : Option (List Event)) (a b c : SessionView) → HasWorked o t u a b [] → Hears u v (asked true ∷ [])
    → HasAnswered o v w b c → HasWorked o t w a c []
worked_on o t u v w a b c p admitted q = record {
  connections = p.connections ++ q.answers ∷ [];
  heard = heard_as t w _ _ parts (hears_then t v w _ _ (hears_then t u v _ _ p.heard admitted) q.heard);
  gives = gives_on_then o a b c p.connections q.answers p.gives q.gives;
}
  where
    earlier : List Event
    earlier = flat_map heard_of_connection p.connections

    later : List Event
    later = flat_map heard_of q.answers

    parts : ((earlier ++ []) ++ asked true ∷ []) ++ later ≡ flat_map heard_of_connection (p.connections ++ q.answers ∷ []) ++ []
    parts =
        append_assoc (earlier ++ []) (asked true ∷ []) later
        ∙ ap (λ (l : List Event). l ++ asked true ∷ later) (append-nil earlier)
        ∙ ap (λ (l : List Event). earlier ++ l) (sym (append-nil (asked true ∷ later)))
        ∙ sym (flat_map-append heard_of_connection p.connections (q.answers ∷ []))
        ∙ sym (append-nil (flat_map heard_of_connection (p.connections ++ q.answers ∷ [])))

-- If the gate admits one more connection, the text written to it is of the replies to the bytes
-- read from it.
pub replied_on : (durable : ℕ → Type 0) (o : Journal) (t u v w : Option (List Event)) (a b c : SessionView) (from mid to : Written) (bytes text : List ℕ)
    → HasReplied durable o t u a b [] from mid → Hears u v (asked true ∷ []) → HasConversed durable o v w b c bytes text
    → GoesOnWith mid to (bytes ∷ []) (text ∷ []) → HasReplied durable o t w a c [] from to
unfolding worked_on
replied_on durable o t u v w a b c from mid to bytes text p admitted q since = record {
  worked = worked_on o t u v w a b c p.worked admitted q.answered;
  read = p.read ++ bytes ∷ [];
  texts = p.texts ++ text ∷ [];
  since = goes_on_then from mid to p.read p.texts (bytes ∷ []) (text ∷ []) p.since since;
  replied = replied_then durable p.worked.connections p.read p.texts q.answered.answers bytes text p.replied q.replied;
}

-- When the gate admits no more connections, the work ends.
pub replied_all : (durable : ℕ → Type 0) (o : Journal) (t u v : Option (List Event)) (a b : SessionView) (from to : Written)
    → HasReplied durable o t u a b [] from to → Hears u v (asked false ∷ []) → HasReplied durable o t v a b (asked false ∷ []) from to
replied_all durable o t u v a b from to p closed = record {
  worked = record {
    connections = p.worked.connections;
    heard = heard_as t v _ _ (append_assoc (flat_map heard_of_connection p.worked.connections) [] (asked false ∷ []))
        (hears_then t u v _ _ p.worked.heard closed);
    gives = p.worked.gives;
  };
  read = p.read;
  texts = p.texts;
  since = p.since;
  replied = p.replied;
}

-- A session that did nothing has worked on no connections.
pub replied_nothing : (durable : ℕ → Type 0) (o : Journal) (t : Option (List Event)) (s : SessionView) (written : Written)
    → HasReplied durable o t t s s [] written written
replied_nothing durable o t s written = record {
  worked = record { connections = []; heard = hears_nothing t; gives = refl };
  read = [];
  texts = [];
  since = record { has_read = sym (append-nil written.read); has_written = sym (append-nil written.texts) };
  replied = (refl, refl);
}

-- If nothing was read or written before, all that was is of the session's connections.
pub replied_since : (durable : ℕ → Type 0) (o : Journal) (t u : Option (List Event)) (a b : SessionView) (end : List Event) (from to now : Written)
    → from.read ≡ [] → from.texts ≡ [] → now.read ≡ to.read → now.texts ≡ to.texts → HasReplied durable o t u a b end from to
    → HasReplied durable o t u a b end nothing_written now
replied_since durable o t u a b end from to now unread unwritten read texts p = record {
  worked = p.worked;
  read = p.read;
  texts = p.texts;
  since = record {
    has_read = read ∙ p.since.has_read ∙ ap (λ (l : List (List ℕ)). l ++ p.read) unread;
    has_written = texts ∙ p.since.has_written ∙ ap (λ (l : List (List ℕ)). l ++ p.texts) unwritten;
  };
  replied = p.replied;
}
