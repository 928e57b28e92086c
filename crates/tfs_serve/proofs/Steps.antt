-- Lemmas: the answers of a session are steps of the desk over it.
use Rattle.std.proofs.Common.{◌≡◌, ◌≢◌, ◌+◌, ◌<◌, ◌≤◌, ◌⊎◌, ℕ, length, arith, List, [], ◌∷◌, Option, Some, None, IsSome, refl, sym, ◌∙◌, ap, subst, inl, inr}
use Rattle.std.specs.Option.{option_map_or}
use Rattle.tfs_rules.specs.Act.{ActValue}
use Rattle.tfs_calls.specs.declared.call.Call.{Call}
use Rattle.tfs_calls.specs.declared.call.Call.TheVariants.{Read, Change, Impact}
use Rattle.tfs_calls.specs.declared.call.Raw.{Raw}
use Rattle.tfs_calls.specs.declared.query.Query.{Query}
use Rattle.tfs_calls.specs.Draft.{act_of, draft_refusal, TakesNoMemory}
use Rattle.tfs_calls.specs.Refusal.{RefusalValue, no_copy, no_state, out_of_memory}
use Rattle.tfs_calls.specs.Reply.{ReplyValue, done, state, refused}
use Rattle.tfs_state.specs.Document.{Document}
use Rattle.tfs_rules.specs.History.{state_of}
use Rattle.tfs_records.specs.Journal.{Journal, acts_of, position_of}
use Rattle.tfs_table.specs.Lawful.{IsLawful}
use Rattle.tfs_calls.specs.Transition.{TableModel, Answers, AnswersAct, act_answer, journal_after_act, answer_of, open_model}
use Rattle.tfs_shared.specs.Impact.{AnswersImpact, HasFewTexts}
use Rattle.tfs_shared.specs.Locked.{AnswersChange, AnswersRead, HasNoCopy}
use Rattle.tfs_shared.specs.Signed.{IsSigned, makers_told}
use Rattle.tfs_published.specs.Beginning.{BeginsWith}
use Rattle.tfs_shared.specs.View.{SessionView, CountsStop, missed}
use Rattle.tfs_published.proofs.Beginnings.{begins_with_itself}
use Rattle.tfs_serve.specs.Session.{LacksCopy, AnswersOver, KeepsCount, accepted_by}

-- A step of a session, without the count.
abbrev pub Answered : Journal → SessionView → Call → ReplyValue → SessionView → Type 0
Answered opening old call reply new = LacksCopy opening old call reply new ⊎ AnswersOver old call reply new

-- A reply that reports no accepted change keeps count.
pub counts_none : (opening : Journal) (old new : SessionView) (reply : ReplyValue) → IsSigned opening old new [] → makers_told old.number reply ≡ []
    → CountsStop old new reply → KeepsCount opening old reply new
counts_none opening old new reply signed none stops = record {
  signed = subst (λ (l : List ℕ). IsSigned opening old new l) (sym none) signed;
  numbered = λ position is. absurd (cc (sym (ap (makers_told old.number) is) ∙ none));
  stops = stops;
}

-- A reply that reports an accepted change keeps count.
pub counts_one : (opening : Journal) (old new : SessionView) (number : ℕ) → IsSigned opening old new (old.number ∷ [])
    → (number ≡ position_of new.journal) × (position_of old.journal < number) → CountsStop old new (done number)
    → KeepsCount opening old (done number) new
counts_one opening old new number signed at stops = record {
  signed = signed;
  numbered = λ position is.
      let same : number ≡ position = cc is in
      subst (λ (n : ℕ). (n ≡ position_of new.journal) × (position_of old.journal < n)) same at;
  stops = stops;
}

-- The answer to an impact query is a step.
pub impact_step : (opening : Journal) (old new : SessionView) (name : List ℕ) (query : Query) (reply : ReplyValue)
    → ((m : TableModel) (call : Call) → answer_of m call ≢ refused out_of_memory)
    → ((reply ≡ refused no_copy) × (new ≡ missed old)) ⊎ AnswersImpact new.journal name query reply → BeginsWith new.journal old.journal
    → new.accepted ≡ old.accepted → accepted_by reply ≡ 0 → Answered opening old (Impact name query) reply new
impact_step opening old new name query reply had (inl a) later same none = inl a
impact_step opening old new name query reply had (inr a) later same none = inr (record {
  before = open_model new.journal;
  after = open_model new.journal;
  lawful = a.0;
  fresh = later;
  answer = answered a.1;
  memory = λ lacks. has_state (had (open_model new.journal) (Impact name query)) (state_of (acts_of name new.journal)) a.1 lacks;
  seen = refl;
  accepted = omega (arith, same, none);
})
  where
    answered : (reply ≡ answer_of (open_model new.journal) (Impact name query))
        ⊎ ((reply ≡ refused out_of_memory) × IsSome (state_of (acts_of name new.journal)) × HasFewTexts query)
        → Answers (open_model new.journal) (Impact name query) reply (open_model new.journal)
    answered (inl is) = inl (inl (is, refl))
    answered (inr lacks) = inl (inr (lacks.0, refl))

    has_state : answer_of (open_model new.journal) (Impact name query) ≢ refused out_of_memory → (o : Option Document)
        → (reply ≡ answer_of (open_model new.journal) (Impact name query)) ⊎ ((reply ≡ refused out_of_memory) × IsSome o × HasFewTexts query)
        → reply ≡ refused out_of_memory → (o ≢ None) × (0 < length query.texts) × (length query.texts ≤ 64)
    has_state had o (inl is) lacks = absurd (had (sym is ∙ lacks))
    has_state had None (inr is) lacks = absurd (cc (is.1))
    has_state had (Some d) (inr is) lacks = (λ e. cc e, is.2.0, is.2.1)

-- The answer to a read is a step.
pub read_step : (opening : Journal) (old new : SessionView) (name : List ℕ) (reply : ReplyValue) → AnswersRead name old new reply
    → new.accepted ≡ old.accepted → accepted_by reply ≡ 0 → Answered opening old (Read name) reply new
read_step opening old new name reply a same none = inr (record {
  before = open_model a.journal;
  after = open_model a.journal;
  lawful = a.lawful;
  fresh = a.fresh;
  answer = answered a.answer;
  memory = λ lacks. has_state (state_of (acts_of name a.journal)) a.answer lacks;
  seen = a.seen;
  accepted = omega (arith, same, none);
})
  where
    answered : (reply ≡ answer_of (open_model a.journal) (Read name))
        ⊎ ((reply ≡ refused out_of_memory) × (state_of (acts_of name a.journal) ≢ None))
        → Answers (open_model a.journal) (Read name) reply (open_model a.journal)
    answered (inl is) = inl (inl (is, refl))
    answered (inr lacks) = inl (inr (lacks.0, refl))

    has_state : (o : Option Document)
        → (reply ≡ option_map_or state o (refused no_state)) ⊎ ((reply ≡ refused out_of_memory) × (o ≢ None))
        → reply ≡ refused out_of_memory → o ≢ None
    has_state None (inl is) lacks = absurd (cc (sym is ∙ lacks))
    has_state (Some d) (inl is) lacks = λ e. cc e
    has_state o (inr is) lacks = is.1

-- The refusal of a read is a step.
pub refused_read_step : (opening : Journal) (old new : SessionView) (name : List ℕ) (refusal : RefusalValue)
    → HasNoCopy opening old new (refused refusal) ⊎ AnswersRead name old new (refused refusal) → new.accepted ≡ old.accepted
    → Answered opening old (Read name) (refused refusal) new
refused_read_step opening old new name refusal (inl a) same = inl a
refused_read_step opening old new name refusal (inr a) same = read_step opening old new name (refused refusal) a same refl

-- The refusal of a change whose body is invalid is a step.
pub draft_step : (opening : Journal) (v : SessionView) (name : List ℕ) (raw : Raw) (refusal : RefusalValue) → IsLawful v.journal
    → (refusal ≡ out_of_memory) ⊎ ((refusal ≡ draft_refusal raw) × (act_of raw ≡ None)) → (TakesNoMemory raw → refusal ≢ out_of_memory)
    → Answered opening v (Change name raw) (refused refusal) v
draft_step opening v name raw refusal lawful is never = inr (record {
  before = open_model v.journal;
  after = open_model v.journal;
  lawful = lawful;
  fresh = begins_with_itself v.journal;
  answer = answered is;
  memory = λ lacks takes. absurd (never takes (cc lacks));
  seen = refl;
  accepted = omega arith;
})
  where
    m : TableModel
    m = open_model v.journal

    answered : (refusal ≡ out_of_memory) ⊎ ((refusal ≡ draft_refusal raw) × (act_of raw ≡ None))
        → Answers m (Change name raw) (refused refusal) m
    answered (inl lacks) = inl (inr (ap refused lacks, refl))
    answered (inr none) = inl (inl (
      subst (λ (o : Option ActValue). refused refusal ≡ option_map_or (act_answer m name) o (refused (draft_refusal raw))) (sym none.1)
          (ap refused none.0),
      subst (λ (o : Option ActValue). m ≡ record { journal = option_map_or (journal_after_act m name) o m.journal; stopped = m.stopped })
          (sym none.1) refl,
    ))

-- The answer to a change is a step.
pub change_step : (opening : Journal) (old new : SessionView) (name : List ℕ) (raw : Raw) (act : ActValue) (reply : ReplyValue)
    → ((before after : TableModel) → AnswersAct before name act reply after → Answers before (Change name raw) reply after)
    → act_of raw ≡ Some act → HasNoCopy opening old new reply ⊎ AnswersChange name act old new reply
    → new.accepted ≡ old.accepted + accepted_by reply → Answered opening old (Change name raw) reply new
change_step opening old new name raw act reply law read (inl a) counted = inl a
change_step opening old new name raw act reply law read (inr a) counted = inr (record {
  before = a.before;
  after = a.after;
  lawful = a.lawful;
  fresh = a.fresh;
  answer = law a.before a.after a.answer;
  memory = λ lacks takes. (λ none. cc (read, none), a.running lacks);
  seen = a.seen;
  accepted = counted;
})
