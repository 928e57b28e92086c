-- Lemmas about the causes of refusals.
use Rattle.std.proofs.Common.{◌≡◌, ◌∙◌, ◌+◌, ◌⊎◌, ℕ, List, Bool, true, false, cond, Option, Some, None, IsSome, refl, sym, ap, subst, inl, inr}
use Rattle.std.specs.Option.{option_map_or}
use Rattle.tfs_state.specs.Document.{Document}
use Rattle.tfs_rules.specs.History.{state_of}
use Rattle.tfs_rules.specs.Act.{ActValue}
use Rattle.tfs_records.specs.Journal.{Journal, EntryValue, acts_of, position_of}
use Rattle.tfs_records.specs.Format.{record_text}
use Rattle.tfs_records.specs.Sink.{AppendsPart}
use Rattle.tfs_calls.specs.Refusal.{RefusalValue, out_of_memory, journal_stopped, journal_fault, no_state}
use Rattle.tfs_calls.specs.Reply.{ReplyValue, refused, done}
use Rattle.tfs_calls.specs.Transition.{TableModel, MayLackMemory, act_refusal, query_answer, open_model}
use Rattle.tfs_calls.specs.declared.query.Query.{Query}
use Rattle.tfs_table.specs.Lawful.{IsLawful}
use Rattle.tfs_table.specs.Table.{TableValue, IsSameTable, IsFaultAt, model_of}
use Rattle.tfs_table.proofs.JudgeLemmas.{refused_without_fault}
use Rattle.tfs_shared.specs.Impact.{AnswersImpact, AnswersQuery}
use Rattle.tfs_shared.specs.LockedState.{HasCause}
use Rattle.tfs_shared.specs.Locked.{AnswersChange}
use Rattle.tfs_published.specs.Beginning.{BeginsWith}
use Rattle.tfs_shared.specs.View.{SessionView}

-- `OutOfMemory` is a reply to any change over a lawful journal that begins with what the session
-- had seen.
pub lacks_memory : (name : List ℕ) (act : ActValue) (old new : SessionView) (j : Journal) → IsLawful j → BeginsWith j old.journal → new.journal ≡ j
    → AnswersChange name act old new (refused out_of_memory)
lacks_memory name act old new j lawful fresh seen = record {
  before = open_model j;
  after = open_model j;
  lawful = lawful;
  fresh = fresh;
  answer = inl (inr (refl, refl));
  running = λ lacks. refl;
  seen = seen;
}

-- `JournalStopped` is a reply to any change over a stopped table.
pub is_stopped : (name : List ℕ) (act : ActValue) (old new : SessionView) (j : Journal) → IsLawful j → BeginsWith j old.journal → new.journal ≡ j
    → AnswersChange name act old new (refused journal_stopped)
is_stopped name act old new j lawful fresh seen = record {
  before = record { journal = j; stopped = true };
  after = record { journal = j; stopped = true };
  lawful = lawful;
  fresh = fresh;
  answer = inl (inl (refl, refl));
  running = λ lacks. absurd (cc lacks);
  seen = seen;
}

-- A query over a lost version is answered over its state.
pub lost_answer : (j : Journal) (name : List ℕ) (query : Query) (reply : ReplyValue) → IsLawful j → IsSome (state_of (acts_of name j))
    → ((d : Document) (position : ℕ) → AnswersQuery d query position reply) → AnswersImpact j name query reply
lost_answer j name query reply lawful there answers = by (state_of (acts_of name j)) refl there
  where
    by : (o : Option Document) → state_of (acts_of name j) ≡ o → IsSome o → AnswersImpact j name query reply
    by None is some = absurd (cc some)
    by (Some d) is some = elim (answers d (position_of j)) [
      | inl told ↦ (lawful, inl (told ∙ sym (ap (λ (o : Option Document). option_map_or (query_answer j query) o (refused no_state)) is)))
      | inr lacks ↦ (lawful, inr (lacks.0, there, lacks.1))
    ]

-- ---- Changes of a table under its lock.

-- A change that the rules accept may be refused for lack of memory: its table isn't stopped.
pub may_lack : (m : TableModel) (name : List ℕ) (act : ActValue) → act_refusal m name act ≡ None → MayLackMemory m name act
may_lack m name act accepted = record { running = by m.stopped _ accepted; needs = inr accepted }
  where
    by : (b : Bool) (o : Option RefusalValue) → cond b (Some journal_stopped) o ≡ None → b ≡ false
    by false o e = refl
    by true o e = let wrong = e in cc

module _ (old mid new : TableValue) (e : EntryValue) (same : IsSameTable old mid) where
  -- If the sink failed at a record of an equal table, it failed at that record of this table.
  fault_of_same : IsFaultAt mid new e → IsFaultAt old new e
  fault_of_same f = record {
    fault = record {
      running = sym same.stopped ∙ f.fault.running;
      journal = f.fault.journal ∙ same.journal;
      stopped = f.fault.stopped;
      tells = f.fault.tells ∙ same.tells;
      faults = f.fault.faults ∙ ap (λ n. n + 1) same.faults;
    };
    part = subst (λ (t : Option (List ℕ)). AppendsPart t new.told (record_text e)) same.told f.part;
  }

  -- `JournalFault` is the reply if the sink failed at the record.
  pub fault_caused : (refusal : RefusalValue) → refusal ≡ journal_fault → IsFaultAt mid new e → HasCause old new e (refused refusal)
  fault_caused refusal is f = record { fault = λ _. fault_of_same f; memory = λ lacks. absurd (cc (is, lacks)) }

-- A change that isn't prepared is refused by the model or for lack of memory.
pub unready_caused : (old new : TableValue) (e : EntryValue) (refusal : RefusalValue)
    → (refusal ≡ out_of_memory) ⊎ (act_refusal (model_of old) e.name e.act ≡ Some refusal)
    → (refusal ≡ out_of_memory → MayLackMemory (model_of old) e.name e.act) → HasCause old new e (refused refusal)
unready_caused old new e refusal is may = record {
  fault = λ told. absurd (no_fault is (cc told));
  memory = λ lacks. may (cc lacks);
}
  where
    no_fault : (refusal ≡ out_of_memory) ⊎ (act_refusal (model_of old) e.name e.act ≡ Some refusal) → refusal ≡ journal_fault → ⊥
    no_fault (inl memory) told = cc (memory, told)
    no_fault (inr refusal_is) told = refused_without_fault (model_of old) e.name e.act (refusal_is ∙ ap (λ r. Some r) told)

-- A change that is accepted but not staged is refused for lack of memory.
pub unstaged_caused : (old new : TableValue) (e : EntryValue) (refusal : RefusalValue) → refusal ≡ out_of_memory
    → act_refusal (model_of old) e.name e.act ≡ None → HasCause old new e (refused refusal)
unstaged_caused old new e refusal is accepted = record {
  fault = λ told. absurd (cc (is, told));
  memory = λ lacks. may_lack (model_of old) e.name e.act accepted;
}

-- An accepted change needs no cause of refusal.
pub made_caused : (old new : TableValue) (e : EntryValue) (position : ℕ) → HasCause old new e (done position)
made_caused old new e position = record { fault = λ told. absurd (cc told); memory = λ lacks. absurd (cc lacks) }
