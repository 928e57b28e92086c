-- Lemmas about the accepted changes of sessions.
use Rattle.std.proofs.Common.{◌≡◌, ℕ, zero, suc, ◌+◌, ◌*◌, ◌<◌, ◌≤◌, nat_lt, Bool, true, false, List, [], ◌∷◌, ◌++◌, length, get_or, sum_by, refl, sym, ◌∙◌, ap, subst, arith}
use Rattle.std.proofs.lemmas.Bool.Decides.{nat_tests}
use Rattle.std.proofs.lemmas.List.Sums.{sum_by-append, sum_by-cons, get_or-le-sum_by}
use Rattle.tfs_shared.specs.Stops.{as_number, accepted_of, faults_of, stops_of}
use Rattle.tfs_shared.specs.View.{SessionView, counted_for}

-- The number of accepted changes with one more session is the sum.
pub accepted_more : (sessions : List SessionView) (last : SessionView)
    → sum_by (λ (s : SessionView). s.accepted) (sessions ++ last ∷ []) ≡ sum_by (λ (s : SessionView). s.accepted) sessions + last.accepted
accepted_more sessions last = omega (arith, sum_by-append (λ (s : SessionView). s.accepted) sessions (last ∷ []))

-- The ledger amount with one more session is the sum.
pub counted_more : (sessions : List SessionView) (last : SessionView)
    → sum_by counted_for (sessions ++ last ∷ []) ≡ sum_by counted_for sessions + counted_for last
counted_more sessions last = omega (arith, sum_by-append counted_for sessions (last ∷ []))

-- The ledger amount of all sessions is a sum of its three counts with their weights.
counted_all : (sessions : List SessionView) → sum_by counted_for sessions ≡ sum_by (λ (s : SessionView). s.accepted) sessions
    + 2097152 * sum_by (λ (s : SessionView). as_number s.faulted) sessions + 67108864 * sum_by (λ (s : SessionView). as_number s.stopped) sessions
counted_all [] = refl
counted_all (s ∷ rest) =
    let others = counted_all rest in
    omega (
      arith,
      others,
      sum_by-cons counted_for s rest,
      sum_by-cons (λ (v : SessionView). v.accepted) s rest,
      sum_by-cons (λ (v : SessionView). as_number v.faulted) s rest,
      sum_by-cons
          (λ (v : SessionView). as_number v.stopped) s rest,
    )

-- A truth value counts as at most 1.
one_most : (b : Bool) → as_number b ≤ 1
one_most true = omega arith
one_most false = omega arith

-- At most as many sessions have the fault as there are.
few_faulted : (sessions : List SessionView) → sum_by (λ (s : SessionView). as_number s.faulted) sessions ≤ length sessions
few_faulted [] = omega arith
few_faulted (s ∷ rest) =
    omega (arith, one_most s.faulted, few_faulted rest, sum_by-cons (λ (v : SessionView). as_number v.faulted) s rest)

-- The total of at most 16 sessions determines the three counts.
pub record AreCounted (sessions : List SessionView) (total : ℕ) : Type 0 where
  pub accepted : accepted_of total ≡ sum_by (λ (s : SessionView). s.accepted) sessions
  pub faulted : faults_of total ≡ sum_by (λ (s : SessionView). as_number s.faulted) sessions
  pub stopped : stops_of total ≡ sum_by (λ (s : SessionView). as_number s.stopped) sessions

-- If the sessions have all parts of the ledger, the total determines their counts.
pub all_counted : (sessions : List SessionView) (all parts amount total : ℕ) → parts ≡ length sessions → parts ≤ all → all ≤ length sessions
    → all ≤ 16 → (parts ≡ all → amount ≡ total) → amount ≡ sum_by counted_for sessions
    → sum_by (λ (s : SessionView). s.accepted) sessions ≤ 65536 * length sessions → AreCounted sessions total
all_counted sessions all parts amount total have apart enough most whole is few =
    let same = whole (omega (arith, have, apart, enough)) in
    let counts = counted_all sessions in
    let faults = few_faulted sessions in
    record {
      accepted = omega (arith, have, apart, most, same, is, few, counts, faults);
      faulted = omega (arith, have, apart, most, same, is, few, counts, faults);
      stopped = omega (arith, have, apart, most, same, is, few, counts, faults);
    }

-- If the ledger has parts, there are sessions.
pub not_none : (sessions : List SessionView) (all : ℕ) → sessions ≡ [] → 1 ≤ all → all ≤ length sessions → ⊥
not_none sessions all none some enough = let nothing = ap length none in omega (arith, nothing, some, enough)

-- If a session has reported that the table is stopped, the count of these is at least 1.
pub one_stopped : (sessions : List SessionView) (k : ℕ) (d : SessionView) → k < length sessions → (get_or sessions k d).stopped ≡ true
    → 1 ≤ sum_by (λ (s : SessionView). as_number s.stopped) sessions
one_stopped sessions k d within is =
    let one = ap as_number is in omega (arith, one, get_or-le-sum_by (λ (s : SessionView). as_number s.stopped) sessions k d within)

-- The element at a place within a list doesn't depend on the default.
any_default : {X : Type 0} (xs : List X) (k : ℕ) (d e : X) → k < length xs → get_or xs k d ≡ get_or xs k e
any_default [] k d e within = absurd (omega arith)
any_default (x ∷ xs) zero d e within = refl
any_default (x ∷ xs) (suc k) d e within = any_default xs k d e (omega arith)

-- What holds of the first `i` elements and of the next one holds of the first `i + 1`.
pub each_more : {X : Type 0} (P : X → Type 0) (xs : List X) (i : ℕ) (x : X) → ((k : ℕ) (d : X) → k < i → P (get_or xs k d))
    → i < length xs → x ≡ get_or xs i x → P x → (k : ℕ) (d : X) → k < i + 1 → P (get_or xs k d)
each_more P xs i x so_far inside is here k d within =
    elim (nat_lt k i) as (λ t. nat_lt k i ≡ t → P (get_or xs k d)) [
      | true ↦ λ e. so_far k d (grind (arith, nat_tests, e))
      | false ↦ λ e.
          let same : k ≡ i = grind (arith, nat_tests, e, within) in
          subst (λ (n : ℕ). P (get_or xs n d)) (sym same) (subst P (is ∙ any_default xs i x d inside) here)
    ] refl
