-- The model's answer is never a refusal for lack of memory or because of the sink.
use Rattle.std.proofs.Common.{◌≢◌, ℕ, Bool, true, false, nat_lt, nat_le, cond, List, [], ◌∷◌, length, Option, Some, None, IfSome, refl}
use Rattle.std.specs.Option.{option_or, option_map_or}
use Rattle.std.specs.Prelude.{option_map, not}
use Rattle.std.specs.List.{list_any}
use Rattle.std.specs.Str.{bytes_eq}
use Rattle.tfs_state.specs.Document.{Document}
use Rattle.tfs_state.specs.StateText.{first_state_fault}
use Rattle.tfs_state.specs.declared.fault.StateFault.{StateFault}
use Rattle.tfs_state.specs.declared.fault.StateFault.TheVariants as state_fault
use Rattle.tfs_lock.specs.LockInfo.{LockInformation}
use Rattle.tfs_lock.specs.LockText.{first_lock_fault}
use Rattle.tfs_lock.specs.declared.fault.LockFault.{LockFault}
use Rattle.tfs_lock.specs.declared.fault.LockFault.TheVariants as lock_fault
use Rattle.tfs_rules.specs.Act.{ActValue}
use Rattle.tfs_rules.specs.History.{state_of, holder_of}
use Rattle.tfs_rules.specs.Verdict.{verdict_of}
use Rattle.tfs_rules.specs.declared.verdict.Verdict.{Verdict}
use Rattle.tfs_rules.specs.declared.verdict.Verdict.TheVariants as verdict
use Rattle.tfs_records.specs.Journal.{acts_of, names_of}
use Rattle.tfs_index.specs.Impact.{query_fault}
use Rattle.tfs_index.specs.declared.fault.ImpactFault.TheVariants as impact_fault
use Rattle.tfs_calls.specs.Draft.{act_of, is_too_long, lock_refusal, state_refusal, lock_text_refusal, state_text_refusal, draft_refusal}
use Rattle.tfs_calls.specs.Impact.{fault_refusal, query_refusal}
use Rattle.tfs_calls.specs.Refusal.{RefusalValue, out_of_memory, journal_fault, bad_lock_info, bad_state, locked, lock_lost}
use Rattle.tfs_calls.specs.Refusal.{journal_stopped, no_state, table_full, journal_full}
use Rattle.tfs_calls.specs.Reply.{ReplyValue, state, refused}
use Rattle.tfs_calls.specs.Transition.{TableModel, refusal_of, verdict_refusal, full_refusal, limit_refusal, act_refusal}
use Rattle.tfs_calls.specs.Transition.{act_answer, query_answer, answer_of}
use Rattle.tfs_calls.specs.declared.call.Call.{Call}
use Rattle.tfs_calls.specs.declared.call.Call.TheVariants.{Read, Change, Impact}
use Rattle.tfs_calls.specs.declared.call.Raw.{Raw}
use Rattle.tfs_calls.specs.declared.call.Raw.TheVariants.{Lock, Unlock, Push, Delete}
use Rattle.tfs_calls.specs.declared.query.Query.{Query}

-- The refusal is neither `out_of_memory` nor `journal_fault`.
abbrev pub IsOfTheModel : RefusalValue → Type 0
IsOfTheModel refusal = (refusal ≢ out_of_memory) × (refusal ≢ journal_fault)

-- ---- Queries and acts.

-- The refusal of a query, if there is one, is neither of the two.
query_refusals : (d : Document) (query : Query) → IfSome (query_refusal d query) IsOfTheModel
unfolding query_fault
query_refusals d query = by query.texts
  where
    few : (b : Bool) (o : Option ℕ)
        → IfSome (option_map fault_refusal (cond b (Some impact_fault.TooManyAddresses) (option_map impact_fault.UnknownAddress o))) IsOfTheModel
    few true o = (λ e. cc, λ e. cc)
    few false None = tt
    few false (Some k) = (λ e. cc, λ e. cc)

    by : (texts : List (List ℕ)) → IfSome (option_map fault_refusal (query_fault d texts)) IsOfTheModel
    by [] = (λ e. cc, λ e. cc)
    by (text ∷ texts) = few (nat_lt 64 (length (text ∷ texts))) _

-- The refusal of an act, if there is one, is neither of the two.
act_refusals : (m : TableModel) (name : List ℕ) (act : ActValue) → IfSome (act_refusal m name act) IsOfTheModel
act_refusals m name act = by m.stopped (verdict_refusal (acts_of name m.journal) act) (limit_refusal m.journal name)
    (by_verdict (verdict_of (acts_of name m.journal) act))
    (full (length (names_of m.journal)) (length m.journal.entries) (not (list_any (bytes_eq name) (names_of m.journal))))
  where
    full : (names entries : ℕ) (is_new : Bool) → IfSome (full_refusal names is_new entries) IsOfTheModel
    full names entries is_new = few _ (nat_le 65536 entries)
      where
        few : (b c : Bool) → IfSome (cond b (Some table_full) (cond c (Some journal_full) None)) IsOfTheModel
        few true c = (λ e. cc, λ e. cc)
        few false true = (λ e. cc, λ e. cc)
        few false false = tt

    by_holder : (o : Option LockInformation) → IsOfTheModel (option_map_or locked o lock_lost)
    by_holder None = (λ e. cc, λ e. cc)
    by_holder (Some info) = (λ e. cc, λ e. cc)

    by_verdict : (v : Verdict) → IfSome (refusal_of (holder_of (acts_of name m.journal)) v) IsOfTheModel
    by_verdict verdict.Locked = by_holder (holder_of (acts_of name m.journal))
    by_verdict verdict.Accept = tt
    by_verdict v = (λ e. cc, λ e. cc)

    by : (b : Bool) (o p : Option RefusalValue) → IfSome o IsOfTheModel → IfSome p IsOfTheModel
        → IfSome (cond b (Some journal_stopped) (option_or o p)) IsOfTheModel
    by true o p of also = (λ e. cc, λ e. cc)
    by false None p of also = also
    by false (Some refusal) p of also = of

-- If the refusal is neither of the two and the reply is no refusal, the answer, which is one of
-- them, is neither of the two.
reply_told : (o : Option RefusalValue) (reply : ReplyValue) → IfSome o IsOfTheModel → ((r : RefusalValue) → reply ≢ refused r)
    → (option_map_or refused o reply ≢ refused out_of_memory) × (option_map_or refused o reply ≢ refused journal_fault)
reply_told None reply of answers = (answers out_of_memory, answers journal_fault)
reply_told (Some r) reply of answers = (λ e. of.0 (cc), λ e. of.1 (cc))

-- ---- Texts.

module _ (of_state : (bytes : List ℕ) → first_state_fault bytes ≢ Some state_fault.NoMemory)
    (of_lock : (bytes : List ℕ) → first_lock_fault bytes ≢ Some lock_fault.NoMemory) where
  -- The refusal of a state's text is neither of the two.
  state_texts : (body : List ℕ) → IsOfTheModel (state_text_refusal body)
  state_texts body = by (first_state_fault body) (of_state body)
    where
      told : (fault : StateFault) → Some fault ≢ Some state_fault.NoMemory → IsOfTheModel (state_refusal fault)
      told state_fault.NoMemory of = absurd (of refl)
      told fault of = (λ e. cc, λ e. cc)

      by : (o : Option StateFault) → o ≢ Some state_fault.NoMemory → IsOfTheModel (option_map_or state_refusal o bad_state)
      by None of = (λ e. cc, λ e. cc)
      by (Some fault) of = told fault of

  -- The refusal of a lock text is neither of the two.
  lock_texts : (body : List ℕ) → IsOfTheModel (lock_text_refusal body)
  lock_texts body = by (first_lock_fault body) (of_lock body)
    where
      told : (fault : LockFault) → Some fault ≢ Some lock_fault.NoMemory → IsOfTheModel (lock_refusal fault)
      told lock_fault.NoMemory of = absurd (of refl)
      told fault of = (λ e. cc, λ e. cc)

      by : (o : Option LockFault) → o ≢ Some lock_fault.NoMemory → IsOfTheModel (option_map_or lock_refusal o bad_lock_info)
      by None of = (λ e. cc, λ e. cc)
      by (Some fault) of = told fault of

  -- The refusal of a change's texts is neither of the two.
  draft_refusals : (raw : Raw) → IsOfTheModel (draft_refusal raw)
  draft_refusals (Lock body) = lock_texts body
  draft_refusals (Unlock [] text) = (λ e. cc, λ e. cc)
  draft_refusals (Unlock (byte ∷ bytes) text) = lock_texts (byte ∷ bytes)
  draft_refusals (Push text body) = by (is_too_long text)
    where
      by : (b : Bool) → IsOfTheModel (cond b bad_lock_info (state_text_refusal body))
      by true = (λ e. cc, λ e. cc)
      by false = state_texts body
  draft_refusals (Delete text) = (λ e. cc, λ e. cc)

  -- The model's answer to a call is neither of the two refusals.
  pub answers_told : (m : TableModel) (call : Call) → (answer_of m call ≢ refused out_of_memory) × (answer_of m call ≢ refused journal_fault)
  answers_told m (Read name) = by (state_of (acts_of name m.journal))
    where
      by : (o : Option Document) → (option_map_or state o (refused no_state) ≢ refused out_of_memory)
          × (option_map_or state o (refused no_state) ≢ refused journal_fault)
      by None = (λ e. cc, λ e. cc)
      by (Some d) = (λ e. cc, λ e. cc)
  answers_told m (Impact name query) = by (state_of (acts_of name m.journal))
    where
      by : (o : Option Document) → (option_map_or (query_answer m.journal query) o (refused no_state) ≢ refused out_of_memory)
          × (option_map_or (query_answer m.journal query) o (refused no_state) ≢ refused journal_fault)
      by None = (λ e. cc, λ e. cc)
      by (Some d) = reply_told (query_refusal d query) _ (query_refusals d query) (λ r e. cc)
  answers_told m (Change name raw) = by (act_of raw)
    where
      by : (o : Option ActValue) → (option_map_or (act_answer m name) o (refused (draft_refusal raw)) ≢ refused out_of_memory)
          × (option_map_or (act_answer m name) o (refused (draft_refusal raw)) ≢ refused journal_fault)
      by None = let of = draft_refusals raw in (λ e. of.0 (cc), λ e. of.1 (cc))
      by (Some act) = reply_told (act_refusal m name act) _ (act_refusals m name act) (λ r e. cc)
