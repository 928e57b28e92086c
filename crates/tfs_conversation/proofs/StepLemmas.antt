-- Lemmas about desks whose steps are steps of another desk, and about what steps don't change.
use Rattle.std.proofs.Common.{◌≡◌, ◌≢◌, List, ℕ, [], ◌∷◌, Option, Some, None, Result, Ok, Err, IfOk, IfErr, MatchResult, refl, sym, ◌∙◌, ap, subst, inl, inr, arith}
use Rattle.std.specs.Io.KnownBytes.{Appends, Consumes}
use Rattle.tfs_calls.specs.declared.call.Call.{Call}
use Rattle.tfs_calls.specs.Refusal.{refusal_value}
use Rattle.tfs_calls.specs.Reply.{refused}
use Rattle.tfs_calls.specs.declared.refusal.Refusal.{Refusal}
use Rattle.tfs_calls.specs.declared.refusal.Refusal.TheVariants.{OutOfMemory}
use Rattle.tfs_framing.specs.Request.{RequestValue}
use Rattle.tfs_http.specs.Routing.{Route, IsSound, routing_refusal}
use Rattle.tfs_conversation.specs.Conversation.{Said, replied, Step, AnswersRequest, Exchange, Runs, Course, TakesCourse, Talks, Breaks, ComesInReads, HasSpoken}
use Rattle.tfs_conversation.specs.declared.ended.Ended.{Ended}
use Rattle.tfs_conversation.specs.declared.ended.Ended.TheVariants.{Clean}
use Rattle.tfs_http.specs.declared.fault.ServeFault.{ServeFault}

-- If each step of a desk is a step of another desk over a view of it, so is the reply to a request.
module _ {S T : Type 0} (step : Step S) (other : Step T) (view : S → T)
    (over : (old new : S) (call : Call) (reply : Said) → step old call reply new → other (view old) call reply (view new)) where
  answers_over : (old new : S) (r : RequestValue) (reply : Said) → AnswersRequest step old r reply new
      → AnswersRequest other (view old) r reply (view new)
  answers_over old new r reply (inl a) = inl (a.0, a.1, a.2, ap view a.3)
  answers_over old new r reply (inr (inl a)) = inr (inl (a.0, ap view a.1, a.2))
  answers_over old new r reply (inr (inr a)) = inr (inr (a.0, a.1, over old new a.0 reply a.2))

  -- Exchanges with the desk are exchanges with the other desk.
  runs_over : (old new : S) (xs : List Exchange) → Runs step old xs new → Runs other (view old) xs (view new)
  runs_over old new [] run = ap view run
  runs_over old new (x ∷ xs) run = (view run.0, answers_over old run.0 x.request x.reply run.1, runs_over run.0 new xs run.2)

  -- A course with the desk is a course with the other desk.
  pub takes_over : (old new : S) (bytes : List ℕ) (c : Course) → TakesCourse step old new bytes c → TakesCourse other (view old) (view new) bytes c
  takes_over old new bytes c t = record { has = t.has; run = runs_over old new c.exchanges t.run }

  -- A conversation with the desk is a conversation with the other desk.
  pub converses_over : (old new : S) (bytes text : List ℕ) (ended : Ended) → Talks step old new bytes text ended
      → Talks other (view old) (view new) bytes text ended
  converses_over old new bytes text ended c =
      record { course = c.course; takes = takes_over old new bytes c.course c.takes; opened = c.opened; stop = c.stop; text_is = c.text_is }

  -- A conversation that an error broke off is one with the other desk too.
  pub breaks_over : (old new : S) (bytes text : List ℕ) (fault : ServeFault) (before after : ℕ)
      → Breaks step old new bytes text fault before after → Breaks other (view old) (view new) bytes text fault before after
  breaks_over old new bytes text fault before after b = record {
    course = b.course;
    lost = b.lost;
    takes = takes_over old new bytes b.course b.takes;
    opened = b.opened;
    text_is = b.text_is;
    comes_at = b.comes_at;
  }

  -- If a call had a conversation with the desk, it had one with the other desk.
  pub ended_over : (old new : S) (from to was is into onto : Option (List ℕ)) (before after : ℕ) (result : Result Ended ServeFault)
      → IfOk result (λ ended. (bytes : List ℕ) × (text : List ℕ) × Consumes from to bytes × Appends was is bytes × Appends into onto text
      × ComesInReads bytes before after × Talks step old new bytes text ended)
      → IfOk result (λ ended. (bytes : List ℕ) × (text : List ℕ) × Consumes from to bytes × Appends was is bytes × Appends into onto text
      × ComesInReads bytes before after × Talks other (view old) (view new) bytes text ended)
  ended_over old new from to was is into onto before after (Ok ended) c = (c.0, c.1, c.2, c.3, c.4, c.5, converses_over old new c.0 c.1 ended c.6)
  ended_over old new from to was is into onto before after (Err fault) c = c

  -- If an error broke off the conversation of a call, it broke off one with the other desk.
  pub broken_over : (old new : S) (from to was is into onto : Option (List ℕ)) (before after : ℕ) (result : Result Ended ServeFault)
      → IfErr result (λ fault. (bytes : List ℕ) × (text : List ℕ) × Consumes from to bytes × Appends was is bytes × Appends into onto text
      × ComesInReads bytes before after × Breaks step old new bytes text fault before after)
      → IfErr result (λ fault. (bytes : List ℕ) × (text : List ℕ) × Consumes from to bytes × Appends was is bytes × Appends into onto text
      × ComesInReads bytes before after × Breaks other (view old) (view new) bytes text fault before after)
  broken_over old new from to was is into onto before after (Ok ended) c = c
  broken_over old new from to was is into onto before after (Err fault) c =
      (c.0, c.1, c.2, c.3, c.4, c.5, breaks_over old new c.0 c.1 fault before after c.6)

  -- A conversation with the desk, complete or broken off, is one with the other desk.
  pub spoken_over : (old new : S) (bytes text : List ℕ) → HasSpoken step old new bytes text → HasSpoken other (view old) (view new) bytes text
  spoken_over old new bytes text t = record { reads = t.reads; came = t.came; end = t.end; talk = by t.end t.talk }
    where
      by : (end : Result Ended ServeFault)
          → MatchResult end (λ ended. Talks step old new bytes text ended) (λ fault. Breaks step old new bytes text fault 0 t.reads)
          → MatchResult end (λ ended. Talks other (view old) (view new) bytes text ended)
          (λ fault. Breaks other (view old) (view new) bytes text fault 0 t.reads)
      by (Ok ended) c = converses_over old new bytes text ended c
      by (Err fault) b = breaks_over old new bytes text fault 0 t.reads b

-- If no step of a desk changes a part of it, exchanges don't change this part either.
pub runs_keep : {S U : Type 0} (step : Step S) (part : S → U)
    → ((old new : S) (call : Call) (reply : Said) → step old call reply new → part new ≡ part old)
    → (old new : S) (xs : List Exchange) → Runs step old xs new → part new ≡ part old
runs_keep step part keeps old new [] run = ap part run
runs_keep {S} step part keeps old new (x ∷ xs) run = runs_keep step part keeps run.0 new xs run.2 ∙ between run.1
  where
    between : AnswersRequest step old x.request x.reply run.0 → part run.0 ≡ part old
    between (inl a) = ap part a.3
    between (inr (inl a)) = ap part a.1
    between (inr (inr a)) = keeps old run.0 a.0 x.reply a.2

-- If no step of a desk changes a part of it, a conversation doesn't change this part either.
pub call_keeps : {S U : Type 0} (step : Step S) (part : S → U)
    → ((old new : S) (call : Call) (reply : Said) → step old call reply new → part new ≡ part old)
    → (old new : S) (from to was is into onto : Option (List ℕ)) (before after : ℕ) (result : Result Ended ServeFault)
    → IfOk result (λ ended. (bytes : List ℕ) × (text : List ℕ) × Consumes from to bytes × Appends was is bytes × Appends into onto text
    × ComesInReads bytes before after × Talks step old new bytes text ended)
    → IfErr result (λ fault. (bytes : List ℕ) × (text : List ℕ) × Consumes from to bytes × Appends was is bytes × Appends into onto text
    × ComesInReads bytes before after × Breaks step old new bytes text fault before after)
    → part new ≡ part old
call_keeps step part keeps old new from to was is into onto before after (Ok ended) c b =
    runs_keep step part keeps old new c.6.course.exchanges c.6.takes.run
call_keeps step part keeps old new from to was is into onto before after (Err fault) c b =
    runs_keep step part keeps old new b.6.course.exchanges b.6.takes.run

-- A conversation with a reader that had returned no bytes and a writer that held none is one of the
-- bytes that the reader has returned and the text that the writer holds after it.
pub has_talked : {S : Type 0} (step : Step S) (old new : S) (from to : Option (List ℕ)) (bytes text : List ℕ) (after : ℕ)
    (result : Result Ended ServeFault)
    → IfOk result (λ ended. (b : List ℕ) × (t : List ℕ) × Consumes from to b × Appends (Some []) (Some bytes) b × Appends (Some []) (Some text) t
    × ComesInReads b 0 after × Talks step old new b t ended)
    → IfErr result (λ fault. (b : List ℕ) × (t : List ℕ) × Consumes from to b × Appends (Some []) (Some bytes) b × Appends (Some []) (Some text) t
    × ComesInReads b 0 after × Breaks step old new b t fault 0 after)
    → HasSpoken step old new bytes text
has_talked step old new from to bytes text after (Ok ended) c b = record {
  reads = after;
  came = subst (λ (l : List ℕ). ComesInReads l 0 after) (sym c.3) c.5;
  end = Ok ended;
  talk = subst (λ (l : List ℕ). Talks step old new l text ended) (sym c.3) (subst (λ (t : List ℕ). Talks step old new c.0 t ended) (sym c.4) c.6);
}
has_talked step old new from to bytes text after (Err fault) c b = record {
  reads = after;
  came = subst (λ (l : List ℕ). ComesInReads l 0 after) (sym b.3) b.5;
  end = Err fault;
  talk = subst (λ (l : List ℕ). Breaks step old new l text fault 0 after) (sym b.3)
      (subst (λ (t : List ℕ). Breaks step old new b.0 t fault 0 after) (sym b.4) b.6);
}

-- A conversation of no bytes writes nothing and doesn't change the desk.
pub talked_nothing : {S : Type 0} (step : Step S) (s : S) → HasSpoken step s s [] []
talked_nothing step s = record {
  reads = 0;
  came = record { counted = omega arith; pace = omega arith };
  end = Ok Clean;
  talk = record {
    course = record { exchanges = []; rest = []; refusal = None };
    takes = record { has = record { messages = refl; refused = tt }; run = refl };
    opened = tt;
    stop = (refl, refl, refl);
    text_is = refl;
  };
}

-- A conversation has exchanges that the desk ran.
pub talked_run : {S : Type 0} (step : Step S) (old new : S) (bytes text : List ℕ) → HasSpoken step old new bytes text
    → (exchanges : List Exchange) × Runs step old exchanges new
talked_run {S} step old new bytes text t = by t.end t.talk
  where
    by : (end : Result Ended ServeFault)
        → MatchResult end (λ ended. Talks step old new bytes text ended) (λ fault. Breaks step old new bytes text fault 0 t.reads)
        → (exchanges : List Exchange) × Runs step old exchanges new
    by (Ok ended) c = (c.course.exchanges, c.takes.run)
    by (Err fault) b = (b.course.exchanges, b.takes.run)

-- If no step of a desk changes a part of it, a conversation, complete or broken off, doesn't either.
pub spoken_keeps : {S U : Type 0} (step : Step S) (part : S → U)
    → ((old new : S) (call : Call) (reply : Said) → step old call reply new → part new ≡ part old)
    → (old new : S) (bytes text : List ℕ) → HasSpoken step old new bytes text → part new ≡ part old
spoken_keeps step part keeps old new bytes text t =
    let run = talked_run step old new bytes text t in runs_keep step part keeps old new run.0 run.1

-- A conversation of texts without bytes doesn't change the desk.
pub talked_no_bytes : {S : Type 0} (step : Step S) (s : S) (bytes text : List ℕ) → bytes ≡ [] → text ≡ [] → HasSpoken step s s bytes text
talked_no_bytes step s bytes text unread unwritten =
    subst (λ (b : List ℕ). HasSpoken step s s b text) (sym unread)
    (subst (λ (t : List ℕ). HasSpoken step s s [] t) (sym unwritten) (talked_nothing step s))

-- A request that routing refuses, or has no memory for, gets this refusal.
pub refused_by_routing : {S : Type 0} (step : Step S) (s : S) (r : RequestValue) (refusal : Refusal)
    → (refusal ≢ OutOfMemory → routing_refusal r refusal) → (refusal ≡ OutOfMemory → (route : Route) × (part : List ℕ) × IsSound r route part)
    → AnswersRequest step s r (replied (refused (refusal_value refusal))) s
refused_by_routing step s r OutOfMemory refuses memory = inr (inl (refl, refl, memory refl))
refused_by_routing step s r refusal refuses memory = inl (refusal, refuses (λ e. cc), refl, refl)
