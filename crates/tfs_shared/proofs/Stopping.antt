-- Lemmas about what replies report of a stopped table.
use Rattle.std.proofs.Common.{◌≡◌, ◌+◌, ℕ, Bool, true, false, cond, nat_le, List, length, Option, Some, None, IfSome, refl, sym, ◌∙◌, ap, subst, inl, inr, arith}
use Rattle.std.specs.Option.{option_or, option_map_or}
use Rattle.std.specs.Prelude.{not}
use Rattle.std.specs.List.{list_any}
use Rattle.std.specs.Str.{bytes_eq}
use Rattle.tfs_lock.specs.LockInfo.{LockInformation}
use Rattle.tfs_rules.specs.Act.{ActValue}
use Rattle.tfs_rules.specs.History.{holder_of}
use Rattle.tfs_rules.specs.Verdict.{verdict_of}
use Rattle.tfs_rules.specs.declared.verdict.Verdict.{Verdict}
use Rattle.tfs_rules.specs.declared.verdict.Verdict.TheVariants as verdict
use Rattle.tfs_records.specs.Journal.{acts_of, names_of}
use Rattle.tfs_calls.specs.Refusal.{RefusalValue, out_of_memory, journal_stopped, locked, lock_lost, table_full, journal_full}
use Rattle.tfs_calls.specs.Reply.{ReplyValue, refused, done}
use Rattle.tfs_calls.specs.Transition.{TableModel, AnswersAct, refusal_of, verdict_refusal, full_refusal, limit_refusal, act_refusal, act_answer}
use Rattle.tfs_shared.specs.Stops.{as_number, is_fault, is_stop, reports_fault, reports_stop}
use Rattle.tfs_shared.specs.View.{SessionView, CountsStop}

-- The refusal reports neither a fault of the sink nor a stopped table.
abbrev pub IsQuiet : RefusalValue → Type 0
IsQuiet refusal = (is_fault refusal ≡ false) × (is_stop refusal ≡ false)

-- The reply reports a fault of the sink if and only if the call stopped the table, and reports a
-- stop if and only if the table is stopped after the call.
pub record Reports (was is : Bool) (reply : ReplyValue) : Type 0 where
  pub fault : as_number was + as_number (reports_fault reply) ≡ as_number is
  pub stop : reports_stop reply ≡ is

-- A refusal by the rules or the limits reports neither.
rules_quiet : (m : TableModel) (name : List ℕ) (act : ActValue) → IfSome (verdict_refusal (acts_of name m.journal) act) IsQuiet
rules_quiet m name act = by_verdict (verdict_of (acts_of name m.journal) act)
  where
    by_holder : (o : Option LockInformation) → IsQuiet (option_map_or locked o lock_lost)
    by_holder None = (refl, refl)
    by_holder (Some info) = (refl, refl)

    by_verdict : (v : Verdict) → IfSome (refusal_of (holder_of (acts_of name m.journal)) v) IsQuiet
    by_verdict verdict.Locked = by_holder (holder_of (acts_of name m.journal))
    by_verdict verdict.Accept = tt
    by_verdict v = (refl, refl)

limits_quiet : (names entries : ℕ) (is_new : Bool) → IfSome (full_refusal names is_new entries) IsQuiet
limits_quiet names entries is_new = few _ (nat_le 65536 entries)
  where
    few : (b c : Bool) → IfSome (cond b (Some table_full) (cond c (Some journal_full) None)) IsQuiet
    few true c = (refl, refl)
    few false true = (refl, refl)
    few false false = tt

-- The model's answer to an act reports no fault, and reports a stop if and only if the table is
-- stopped.
answer_reports : (m : TableModel) (name : List ℕ) (act : ActValue)
    → (reports_fault (act_answer m name act) ≡ false) × (reports_stop (act_answer m name act) ≡ m.stopped)
answer_reports m name act = by m.stopped (verdict_refusal (acts_of name m.journal) act) (limit_refusal m.journal name) (rules_quiet m name act)
    (limits_quiet (length (names_of m.journal)) (length m.journal.entries) (not (list_any (bytes_eq name) (names_of m.journal)))) (done _)
    (refl, refl)
  where
    by : (b : Bool) (o p : Option RefusalValue) → IfSome o IsQuiet → IfSome p IsQuiet → (reply : ReplyValue)
        → (reports_fault reply ≡ false) × (reports_stop reply ≡ false)
        → (reports_fault (option_map_or refused (cond b (Some journal_stopped) (option_or o p)) reply) ≡ false)
        × (reports_stop (option_map_or refused (cond b (Some journal_stopped) (option_or o p)) reply) ≡ b)
    by true o p of also reply none = (refl, refl)
    by false None None of also reply none = none
    by false None (Some refusal) of also reply none = also
    by false (Some refusal) p of also reply none = of

-- An act is accepted only if the table isn't stopped.
runs : (m : TableModel) (name : List ℕ) (act : ActValue) → act_refusal m name act ≡ None → m.stopped ≡ false
runs m name act accepted = by m.stopped _ accepted
  where
    by : (b : Bool) (o : Option RefusalValue) → cond b (Some journal_stopped) o ≡ None → b ≡ false
    by false o e = refl
    by true o e = let wrong = e in cc

-- The reply to an act reports the table's state, if `OutOfMemory` occurs only while the table isn't
-- stopped.
pub act_reports : (m after : TableModel) (name : List ℕ) (act : ActValue) (reply : ReplyValue) → AnswersAct m name act reply after
    → (reply ≡ refused out_of_memory → m.stopped ≡ false) → Reports m.stopped after.stopped reply
act_reports m after name act reply (inl (inl gives)) lacks =
    let is = answer_reports m name act in
    let same = ap (λ (t : TableModel). t.stopped) gives.1 in
    subst (λ (b : Bool). Reports m.stopped b reply) (sym same) (record {
      fault = ap (λ (r : ReplyValue). as_number m.stopped + as_number (reports_fault r)) gives.0
          ∙ ap (λ (b : Bool). as_number m.stopped + as_number b) is.0 ∙ omega arith;
      stop = ap reports_stop gives.0 ∙ is.1;
    })
act_reports m after name act reply (inl (inr none)) lacks =
    let same = ap (λ (t : TableModel). t.stopped) none.1 ∙ lacks none.0 in
    subst (λ (b : Bool). Reports b after.stopped reply) (sym (lacks none.0))
    (subst (λ (b : Bool). Reports false b reply) (sym same)
    (subst (λ (r : ReplyValue). Reports false false r) (sym none.0) (record { fault = refl; stop = refl })))
act_reports m after name act reply (inr fault) lacks =
    subst (λ (b : Bool). Reports b after.stopped reply) (sym (runs m name act fault.0))
    (subst (λ (b : Bool). Reports false b reply) (sym (ap (λ (t : TableModel). t.stopped) fault.2))
    (subst (λ (r : ReplyValue). Reports false true r) (sym fault.1) (record { fault = refl; stop = refl })))

-- If the table isn't stopped after a call, the session has nothing to count for the reply.
pub counts_quiet : (old new : SessionView) (reply : ReplyValue) (was is : Bool) → Reports was is reply → is ≡ false → new.faulted ≡ old.faulted
    → new.stopped ≡ old.stopped → CountsStop old new reply
counts_quiet old new reply was is reports runs faulted stopped =
    let fault = reports.fault ∙ ap as_number runs in
    record {
      faulted = ap as_number faulted ∙ omega (arith, fault);
      stopped = stopped ∙ sym (ap (λ (b : Bool). cond b true old.stopped) (reports.stop ∙ runs));
    }
