-- Lemmas: what sessions report of a stopped table.
use Rattle.std.proofs.Common.{◌≡◌, ◌⊎◌, ◌+◌, ◌<◌, ◌≤◌, ℕ, suc, nat_lt, Bool, true, false, cond, List, [], ◌∷◌, length, get_or, sum_by, Option, Some, None, IfSome, refl, sym, ◌∙◌, ap, subst, inl, inr, arith}
use Rattle.std.specs.Option.{option_map_or}
use Rattle.std.specs.Prelude.{option_map}
use Rattle.std.proofs.lemmas.List.Elements.{All-nil, All-cons}
use Rattle.std.proofs.lemmas.List.Sums.{sum_by-cons}
use Rattle.tfs_state.specs.Document.{Document}
use Rattle.tfs_state.specs.StateText.{first_state_fault}
use Rattle.tfs_state.specs.declared.fault.StateFault.{StateFault}
use Rattle.tfs_state.specs.declared.fault.StateFault.TheVariants as state_fault
use Rattle.tfs_lock.specs.LockText.{first_lock_fault}
use Rattle.tfs_lock.specs.declared.fault.LockFault.{LockFault}
use Rattle.tfs_lock.specs.declared.fault.LockFault.TheVariants as lock_fault
use Rattle.tfs_rules.specs.History.{state_of}
use Rattle.tfs_records.specs.Journal.{Journal, acts_of}
use Rattle.tfs_index.specs.Impact.{query_fault}
use Rattle.tfs_index.specs.declared.fault.ImpactFault.TheVariants as impact_fault
use Rattle.tfs_calls.specs.Draft.{is_too_long, lock_refusal, state_refusal, lock_text_refusal, state_text_refusal, draft_refusal}
use Rattle.tfs_calls.specs.Impact.{fault_refusal, query_refusal}
use Rattle.tfs_calls.specs.Refusal.{RefusalValue, bad_lock_info, bad_state, no_copy, no_state, out_of_memory}
use Rattle.tfs_calls.specs.Reply.{ReplyValue, state, refused}
use Rattle.tfs_calls.specs.Transition.{answer_of, query_answer, open_model}
use Rattle.tfs_calls.specs.declared.call.Call.TheVariants.{Read}
use Rattle.tfs_calls.specs.declared.call.Raw.{Raw}
use Rattle.tfs_calls.specs.declared.call.Raw.TheVariants.{Lock, Unlock, Push, Delete}
use Rattle.tfs_calls.specs.declared.query.Query.{Query}
use Rattle.tfs_shared.specs.Impact.{AnswersImpact}
use Rattle.tfs_shared.specs.Locked.{AnswersRead, HasNoCopy}
use Rattle.tfs_shared.specs.Stops.{as_number, comes_faulted, reports_fault, reports_stop}
use Rattle.tfs_shared.specs.View.{SessionView, CountsNothing, CountsStop}
use Rattle.tfs_shared.proofs.Stopping.{IsQuiet}
use Rattle.tfs_serve.specs.Serving.{StopsLast, faults_in}
use Rattle.tfs_serve.specs.Working.{Answer, Gives}

-- The reply reports neither a fault of the sink nor a stopped table.
abbrev pub ReportsNothing : ReplyValue → Type 0
ReportsNothing reply = (reports_fault reply ≡ false) × (reports_stop reply ≡ false)

-- If a reply reports neither, and the session counts nothing, the session has counted the reply.
pub counts_stop : (old new : SessionView) (reply : ReplyValue) → ReportsNothing reply → CountsNothing old new → CountsStop old new reply
counts_stop old new reply quiet nothing = record {
  faulted = ap as_number nothing.faulted
      ∙ sym (ap (λ (b : Bool). as_number old.faulted + as_number b) quiet.0 ∙ omega arith);
  stopped = nothing.stopped ∙ sym (ap (λ (b : Bool). cond b true old.stopped) quiet.1);
}

-- A session that doesn't change counts nothing.
pub counts_same : (v : SessionView) → CountsNothing v v
counts_same v = record { accepted = refl; faulted = refl; stopped = refl }

-- A reply reports nothing if it equals one that reports nothing.
quiet_as : (reply other : ReplyValue) → reply ≡ other → ReportsNothing other → ReportsNothing reply
quiet_as reply other is quiet = subst ReportsNothing (sym is) quiet

-- The refusal of a query reports nothing.
query_quiet : (d : Document) (query : Query) → IfSome (query_refusal d query) IsQuiet
unfolding query_fault
query_quiet d query = by query.texts
  where
    few : (b : Bool) (o : Option ℕ)
        → IfSome (option_map fault_refusal (cond b (Some impact_fault.TooManyAddresses) (option_map impact_fault.UnknownAddress o))) IsQuiet
    few true o = (refl, refl)
    few false None = tt
    few false (Some k) = (refl, refl)

    by : (texts : List (List ℕ)) → IfSome (option_map fault_refusal (query_fault d texts)) IsQuiet
    by [] = (refl, refl)
    by (text ∷ texts) = few (nat_lt 64 (length (text ∷ texts))) _

-- The reply to a query reports nothing.
pub impact_quiet : (j : Journal) (name : List ℕ) (query : Query) (reply : ReplyValue) (X : Type 0)
    → ((reply ≡ refused no_copy) × X) ⊎ AnswersImpact j name query reply → ReportsNothing reply
impact_quiet j name query reply X (inl none) = quiet_as reply (refused no_copy) none.0 (refl, refl)
impact_quiet j name query reply X (inr (lawful, inr lacks)) = quiet_as reply (refused out_of_memory) lacks.0 (refl, refl)
impact_quiet j name query reply X (inr (lawful, inl is)) = quiet_as reply _ is (by (state_of (acts_of name j)))
  where
    told : (o : Option RefusalValue) (other : ReplyValue) → ReportsNothing other → IfSome o IsQuiet → ReportsNothing (option_map_or refused o other)
    told None other quiet of = quiet
    told (Some refusal) other quiet of = of

    by : (o : Option Document) → ReportsNothing (option_map_or (query_answer j query) o (refused no_state))
    by None = (refl, refl)
    by (Some d) = told (query_refusal d query) _ (refl, refl) (query_quiet d query)

-- The reply to a read reports nothing.
pub read_quiet : (opening : Journal) (old new : SessionView) (name : List ℕ) (reply : ReplyValue)
    → HasNoCopy opening old new reply ⊎ AnswersRead name old new reply → ReportsNothing reply
read_quiet opening old new name reply (inl none) = quiet_as reply (refused no_copy) none.answer (refl, refl)
read_quiet opening old new name reply (inr a) = by a.answer
  where
    model : (o : Option Document) → ReportsNothing (option_map_or state o (refused no_state))
    model None = (refl, refl)
    model (Some d) = (refl, refl)

    by : {Y : Type 0} → (reply ≡ answer_of (open_model a.journal) (Read name)) ⊎ ((reply ≡ refused out_of_memory) × Y) → ReportsNothing reply
    by (inl is) = quiet_as reply _ is (model (state_of (acts_of name a.journal)))
    by (inr lacks) = quiet_as reply (refused out_of_memory) lacks.0 (refl, refl)

-- The refusal of a lock body reports nothing.
lock_quiet : (body : List ℕ) → IsQuiet (lock_text_refusal body)
lock_quiet body = by (first_lock_fault body)
  where
    told : (fault : LockFault) → IsQuiet (lock_refusal fault)
    told lock_fault.NoMemory = (refl, refl)
    told fault = (refl, refl)

    by : (o : Option LockFault) → IsQuiet (option_map_or lock_refusal o bad_lock_info)
    by None = (refl, refl)
    by (Some fault) = told fault

-- The refusal of a state body reports nothing.
state_quiet : (body : List ℕ) → IsQuiet (state_text_refusal body)
state_quiet body = by (first_state_fault body)
  where
    told : (fault : StateFault) → IsQuiet (state_refusal fault)
    told state_fault.NoMemory = (refl, refl)
    told fault = (refl, refl)

    by : (o : Option StateFault) → IsQuiet (option_map_or state_refusal o bad_state)
    by None = (refl, refl)
    by (Some fault) = told fault

-- The refusal of a change whose body is invalid reports nothing.
draft_refused : (raw : Raw) → IsQuiet (draft_refusal raw)
draft_refused (Lock body) = lock_quiet body
draft_refused (Unlock [] text) = (refl, refl)
draft_refused (Unlock (byte ∷ bytes) text) = lock_quiet (byte ∷ bytes)
draft_refused (Push text body) = by (is_too_long text)
  where
    by : (b : Bool) → IsQuiet (cond b bad_lock_info (state_text_refusal body))
    by true = (refl, refl)
    by false = state_quiet body
draft_refused (Delete text) = (refl, refl)

-- The refusal of the change, or of memory for it, reports nothing.
pub draft_quiet : (raw : Raw) (refusal : RefusalValue) (X : Type 0) → (refusal ≡ out_of_memory) ⊎ ((refusal ≡ draft_refusal raw) × X)
    → ReportsNothing (refused refusal)
draft_quiet raw refusal X (inl lacks) = subst IsQuiet (sym lacks) (refl, refl)
draft_quiet raw refusal X (inr is) = subst IsQuiet (sym is.0) (draft_refused raw)

-- ---- All replies of a session.

-- The session has counted what these answers report of a stopped table.
pub record HasReported (old new : SessionView) (answers : List Answer) : Type 0 where
  pub faulted : as_number new.faulted ≡ as_number old.faulted + faults_in answers
  pub lasts : old.stopped ≡ true → new.stopped ≡ true
  pub stopped : StopsLast new.stopped answers

-- A session that has counted a reply and then others has counted all of them.
reports_then : (old between new : SessionView) (a : Answer) (more : List Answer) → CountsStop old between a.reply → HasReported between new more
    → HasReported old new (a ∷ more)
reports_then old between new a more one rest =
    let first = one.faulted in
    let others = rest.faulted in
    record {
      faulted = omega (arith, first, others, sum_by-cons (λ (b : Answer). as_number (reports_fault b.reply)) a more);
      lasts = λ is. rest.lasts (one.stopped ∙ either (reports_stop a.reply) is);
      stopped = All-cons (λ (b : Answer). reports_stop b.reply ≡ true → new.stopped ≡ true) a more
          (λ reports. rest.lasts (one.stopped ∙ ap (λ (b : Bool). cond b true old.stopped) reports)) rest.stopped;
    }
  where
    either : (b : Bool) → old.stopped ≡ true → cond b true old.stopped ≡ true
    either true is = refl
    either false is = is

-- A session that caught up and then counted a reply has counted the reply.
stops_since : (old caught new : SessionView) (reply : ReplyValue) → CountsNothing old caught → CountsStop caught new reply → CountsStop old new reply
stops_since old caught new reply nothing stop = record {
  faulted = stop.faulted ∙ ap (λ (b : Bool). as_number b + as_number (reports_fault reply)) nothing.faulted;
  stopped = stop.stopped ∙ ap (λ (b : Bool). cond (reports_stop reply) true b) nothing.stopped;
}

-- A session has counted what all of its answers report.
pub gives_reports : (opening : Journal) (old new : SessionView) (answers : List Answer) → Gives opening old answers new → HasReported old new answers
gives_reports opening old new [] gives = subst (λ (v : SessionView). HasReported old v []) (sym gives) (record {
  faulted = omega arith;
  lasts = λ is. is;
  stopped = All-nil (λ (b : Answer). reports_stop b.reply ≡ true → old.stopped ≡ true);
})
gives_reports opening old new (a ∷ more) gives =
    reports_then old gives.0 new a more (stops_since old gives.1.0 gives.0 a.reply gives.1.1.counted gives.1.2.0.stops)
    (gives_reports opening gives.0 new more gives.3)

-- ---- All sessions.

-- The number of sessions that have the fault is the number of replies that report one, plus 1 if
-- the table was stopped before. The sessions are numbered down to 0.
pub faults_of_all : {B : Type 0} (was : Bool) (g : B → ℕ) (sessions : List SessionView) (bs : List B) → 1 ≤ length sessions
    → length sessions ≡ length bs
    → ((i : ℕ) (d : SessionView) (e : B) → i < length sessions → (number : ℕ) × (number + i + 1 ≡ length sessions)
    × (as_number (get_or sessions i d).faulted ≡ as_number (comes_faulted was number) + g (get_or bs i e)))
    → sum_by (λ (s : SessionView). as_number s.faulted) sessions ≡ as_number was + sum_by g bs
faults_of_all was g [] bs some even each = absurd (omega (arith, some))
faults_of_all was g (s ∷ rest) [] some even each = absurd (omega (arith, even))
faults_of_all was g (s ∷ []) (b ∷ c ∷ bs) some even each = absurd (omega (arith, even))
faults_of_all was g (s ∷ t ∷ rest) (b ∷ []) some even each = absurd (omega (arith, even))
faults_of_all was g (s ∷ []) (b ∷ []) some even each =
    let one = each 0 s b (omega arith) in
    let at = one.1 in
    let first : one.0 ≡ 0 = omega (arith, at) in
    let is = one.2 ∙ ap (λ (n : ℕ). as_number (comes_faulted was n) + g b) first in
    omega (arith, is, sum_by-cons (λ (v : SessionView). as_number v.faulted) s [], sum_by-cons g b [])
faults_of_all {B} was g (s ∷ t ∷ rest) (b ∷ c ∷ bs) some even each =
    let one = each 0 s b (omega arith) in
    let at = one.1 in
    let later : one.0 ≡ suc (length rest) = omega (arith, at) in
    let is = one.2 ∙ ap (λ (n : ℕ). as_number (comes_faulted was n) + g b) later in
    let others = faults_of_all was g (t ∷ rest) (c ∷ bs) (omega arith) (omega (arith, even)) (λ i d e inside.
    let next = each (suc i) d e (omega (arith, inside)) in
    let place = next.1 in (next.0, omega (arith, place), next.2)) in
    omega (arith, is, others, sum_by-cons (λ (v : SessionView). as_number v.faulted) s (t ∷ rest), sum_by-cons g b (c ∷ bs))

-- If `StopsLast` holds with `was`, and `was` implies `is`, it holds with `is`.
pub stops_as : (was is : Bool) (answers : List Answer) → (was ≡ true → is ≡ true) → StopsLast was answers → StopsLast is answers
stops_as was is answers so all k d within reports = so (all k d within reports)
