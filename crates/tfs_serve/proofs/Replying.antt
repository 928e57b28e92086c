-- Lemmas about the answers of sessions, over the journal that a run leaves.
use Rattle.std.proofs.Common.{◌≡◌, ◌⊎◌, ◌+◌, ℕ, Bool, is_some, List, [], ◌∷◌, ◌++◌, Option, refl, sym, ◌∙◌, ap, subst, inl, inr, arith, append_assoc, append-nil}
use Rattle.std.specs.List.{flat_map}
use Rattle.std.proofs.lemmas.List.Sums.{sum_by-append}
use Rattle.tfs_records.specs.Journal.{Journal, BaseValue, EntryValue, position_of}
use Rattle.tfs_calls.specs.declared.call.Call.{Call}
use Rattle.tfs_calls.specs.declared.call.Call.TheVariants.{Read, Change, Impact}
use Rattle.tfs_calls.specs.Reply.{ReplyValue}
use Rattle.tfs_table.specs.Lawful.{IsLawful}
use Rattle.tfs_table.proofs.LawfulLemmas.{lawful_less}
use Rattle.tfs_published.specs.Beginning.{BeginsWith}
use Rattle.tfs_published.proofs.Beginnings.{begins_with_earlier}
use Rattle.tfs_shared.specs.View.{SessionView, new_session}
use Rattle.tfs_serve.specs.Faults.{IsCaused}
use Rattle.tfs_serve.specs.Gate.{Event}
use Rattle.tfs_serve.specs.Session.{LacksCopy, CaughtUpStep, AnswersOver, IsLater, accepted_by}
use Rattle.tfs_serve.specs.Working.{Answer, Gives, GivesOn, AreReplied, HasWorked, end_of_work}
use Rattle.tfs_serve.specs.Serving.{Replies, RepliesInTurn, MayLackCopy, accepted_in, answers_on, IsServed}
use Rattle.tfs_connections.specs.declared.accepting.AcceptFault.{AcceptFault}
use Rattle.tfs_serve.proofs.Later.{later_itself, later_then, begins_answered, lacks_copy, caught_up_later}
use Rattle.tfs_serve.proofs.Standing.{accepted_stand}
use Rattle.tfs_serve.proofs.Tallying.{begins_lower}
use Rattle.tfs_serve.proofs.Working.{gives_then}

-- The first entries of a lawful journal are lawful.
lawful_front : (base : BaseValue) (front rest : List EntryValue) → IsLawful (record { base = base; entries = front ++ rest })
    → IsLawful (record { base = base; entries = front })
lawful_front base front [] lawful =
    subst (λ (es : List EntryValue). IsLawful (record { base = base; entries = es })) (append-nil front) lawful
lawful_front base front (e ∷ rest) lawful =
    (lawful_less (record { base = base; entries = front }) e (lawful_front base (front ++ e ∷ []) rest
    (subst (λ (es : List EntryValue). IsLawful (record { base = base; entries = es })) (sym (append_assoc front (e ∷ []) rest)) lawful))).0

-- A beginning of a lawful journal is lawful.
pub lawful_beginning : (last j : Journal) → IsLawful last → BeginsWith last j → IsLawful j
lawful_beginning last j lawful begins = lawful_front j.base j.entries begins.entries.0 (subst (λ (es : List EntryValue). IsLawful (record {
  base = j.base;
  entries = es;
})) (sym begins.entries.1) (subst (λ (b : BaseValue). IsLawful (record { base = b; entries = last.entries })) begins.base lawful))

-- A session has advanced after giving answers.
gives_later : (opening : Journal) (old new : SessionView) (answers : List Answer) → Gives opening old answers new → IsLater old new
gives_later opening old new [] gives = subst (λ (v : SessionView). IsLater old v) (sym gives) (later_itself old)
gives_later opening old new (a ∷ more) gives =
    later_then old gives.0 new (caught_up_later opening old gives.0 a.call a.reply gives.1) (gives_later opening gives.0 new more gives.3)

-- A session lacks a copy only for a call that `NoCopy` may refuse.
lacks_by : (opening : Journal) (old new : SessionView) (call : Call) (reply : ReplyValue) → LacksCopy opening old call reply new
    → MayLackCopy opening old.journal call
lacks_by opening old new (Read name) reply lacks =
    let lower = lacks.ahead.lower in omega (arith, lower, begins_lower lacks.ahead.journal opening lacks.ahead.begins)
lacks_by opening old new (Change name raw) reply lacks =
    let lower = lacks.ahead.lower in omega (arith, lower, begins_lower lacks.ahead.journal opening lacks.ahead.begins)
lacks_by opening old new (Impact name query) reply lacks = tt

-- A step of a session gives a reply over the last journal, if this begins with all that the session
-- has seen.
step_replies : (opening last : Journal) (old new : SessionView) (a : Answer) → IsLawful last → BeginsWith last new.journal
    → CaughtUpStep opening old a.call a.reply new → a.seen ≡ new.journal → Replies opening last old.journal a
step_replies opening last old new a lawful stands step seen = by step.2.1
  where
    caught : SessionView
    caught = step.0

    has : BeginsWith last a.seen
    has = subst (λ (j : Journal). BeginsWith last j) (sym seen) stands

    by : LacksCopy opening caught a.call a.reply new ⊎ AnswersOver caught a.call a.reply new → Replies opening last old.journal a
    by (inl none) =
        let same = lacks_copy opening caught new a.call a.reply none in
        let at : caught.journal ≡ a.seen = sym (seen ∙ same.1) in
        inl (record {
          reply = same.0;
          later = subst (λ (j : Journal). BeginsWith j old.journal) at step.1.seen;
          stands = has;
          may = subst (λ (j : Journal). MayLackCopy opening j a.call) at (lacks_by opening caught new a.call a.reply none);
        })
    by (inr over) = inr (record {
      before = over.before;
      after = over.after;
      fresh = begins_with_earlier over.before.journal caught.journal old.journal over.fresh step.1.seen;
      answer = over.answer;
      memory = over.memory;
      leaves = sym over.seen ∙ sym seen;
      stood = begins_with_earlier last new.journal over.before.journal stands
          (subst (λ (j : Journal). BeginsWith j over.before.journal) (sym over.seen)
          (begins_answered over.before over.after a.call a.reply over.answer));
      stands = has;
      was_lawful = over.lawful;
      is_lawful = lawful_beginning last a.seen lawful has;
    })

-- The answers of a session are replies in order over the last journal.
gives_replies : (opening last : Journal) (old new : SessionView) (answers : List Answer) → IsLawful last → BeginsWith last new.journal
    → Gives opening old answers new → RepliesInTurn opening last old.journal answers new.journal
gives_replies opening last old new [] lawful stands gives = ap (λ (v : SessionView). v.journal) gives
gives_replies opening last old new (a ∷ more) lawful stands gives =
    let later = gives_later opening gives.0 new more gives.3 in (
      step_replies opening last old gives.0 a lawful (begins_with_earlier last new.journal gives.0.journal stands later.seen) gives.1 gives.2,
      subst (λ (j : Journal). RepliesInTurn opening last j more new.journal) (sym gives.2)
          (gives_replies opening last gives.0 new more lawful stands gives.3),
    )

-- A step adds 1 to the session's accepted changes if the reply reports one as accepted.
step_counts : (opening : Journal) (old new : SessionView) (a : Answer) → CaughtUpStep opening old a.call a.reply new
    → new.accepted ≡ old.accepted + accepted_by a.reply
step_counts opening old new a step = by step.2.1
  where
    caught : step.0.accepted ≡ old.accepted
    caught = step.1.counted.accepted

    by : LacksCopy opening step.0 a.call a.reply new ⊎ AnswersOver step.0 a.call a.reply new → new.accepted ≡ old.accepted + accepted_by a.reply
    by (inl none) =
        let lacks = lacks_copy opening step.0 new a.call a.reply none in
        let same = lacks.2 in
        let nothing = ap accepted_by lacks.0 in
        omega (arith, caught, same, nothing)
    by (inr over) = omega (arith, caught, over.accepted)

-- Answers add as many accepted changes to the session as they report.
gives_counts : (opening : Journal) (old new : SessionView) (answers : List Answer) → Gives opening old answers new
    → new.accepted ≡ old.accepted + accepted_in answers
gives_counts opening old new [] gives = let same = ap (λ (v : SessionView). v.accepted) gives in omega (arith, same)
gives_counts opening old new (a ∷ more) gives =
    let one = step_counts opening old gives.0 a gives.1 in
    let rest = gives_counts opening gives.0 new more gives.3 in
    let parts = sum_by-append (λ (b : Answer). accepted_by b.reply) (a ∷ []) more in
    omega (arith, one, rest, parts)

-- The answers on all connections are answers of the session, in order.
gives_all : (opening : Journal) (old new : SessionView) (connections : List (List Answer)) → GivesOn opening old connections new
    → Gives opening old (flat_map (λ (answers : List Answer). answers) connections) new
gives_all opening old new [] gives = gives
gives_all opening old new (answers ∷ connections) gives =
    gives_then opening old gives.0 new answers (flat_map (λ (x : List Answer). x) connections) gives.1
    (gives_all opening gives.0 new connections gives.2)

-- A session that has worked gives its answers on all connections, in order.
pub all_given : (opening : Journal) (told now : Option (List Event)) (old new : SessionView) (end : List Event)
    → (worked : HasWorked opening told now old new end) → Gives opening old (answers_on worked.connections) new
all_given opening told now old new end worked = gives_all opening old new worked.connections worked.gives

-- If a new session has worked, and the last journal begins with all that it has seen, its worker
-- has served.
pub served : (durable : ℕ → Type 0) (opening last : Journal) (told now : Option (List Event)) (was : Bool) (number : ℕ) (new : SessionView) (fault : Option AcceptFault)
    (read texts : List (List ℕ)) → IsLawful last → BeginsWith last new.journal → IsCaused fault
    → (worked : HasWorked opening told now (new_session opening was number) new (end_of_work (is_some fault)))
    → AreReplied durable worked.connections read texts
    → IsServed durable opening last worked.connections told (record {
      told = now;
      failed = is_some fault;
      fault = fault;
      seen = position_of new.journal;
      accepted = new.accepted;
      read = read;
      written = texts;
    })
served durable opening last told now was number new fault read texts lawful stands caused worked replied = record {
  heard = worked.heard;
  view = new.journal;
  replies = replies;
  stand = accepted_stand opening last opening new.journal all replies;
  failed_is = refl;
  caused = caused;
  seen_is = refl;
  accepted_is = omega (arith, gives_counts opening first new all gives);
  replied = replied;
}
  where
    first : SessionView
    first = new_session opening was number

    all : List Answer
    all = answers_on worked.connections

    gives : Gives opening first all new
    gives = all_given opening told now first new (end_of_work (is_some fault)) worked

    replies : RepliesInTurn opening last opening all new.journal
    replies = gives_replies opening last first new all lawful stands gives
