-- Lemmas about specs/Search.antt.
use Rattle.std.proofs.Common.{◌≡◌, ◌⊎◌, ℕ, zero, suc, ◌+◌, ◌*◌, ◌<◌, ◌≤◌, Bool, true, false, List, [], ◌∷◌, ◌++◌, length, get_or, Option, Some, None, refl, sym, ap, subst, ◌∙◌, inl, inr, arith}
use Rattle.std.specs.Prelude.{Contains, if◌then◌else◌, sum_by}
use Rattle.std.specs.List.{slice_get}
use Rattle.std.proofs.Math.ListN.{set, replicate}
use Rattle.std.proofs.lemmas.Bool.{cases_eq, cases_lt, true≢false}
use Rattle.std.proofs.lemmas.List.{length-append, length-set, length-replicate, get_or-replicate}
use Rattle.std.proofs.lemmas.List.Sums.{sum_by-set}
use Rattle.std.proofs.lemmas.List.Folds.{sum_by-replicate}
use Rattle.std.proofs.lemmas.Option.{slice_get_within, slice_get-get_or, get_or_from_slice_get}
use Rattle.tfs_planes.specs.Rounds.{Chain}
use Rattle.tfs_planes.proofs.WalkLemmas.{chain_of_joins, end_of_chain}
use Rattle.tfs_state.specs.Document.{Document}
use Rattle.tfs_state.specs.Dependency.{DependsOn}
use Rattle.tfs_state.proofs.ListLemmas.{slice_get_longer, slice_get_last}
use Rattle.tfs_index.proofs.ReachLemmas.{target_within}
use Rattle.tfs_plan.specs.Chains.{Follows, AreChains, IsLed}
use Rattle.tfs_plan.specs.Search.{HasStep, HasStart, Extends, AreClosed, IsSearch, Grows, AreWhole, unfound, left}
use Rattle.tfs_plan.specs.declared.chain.Step.{Step}
use Rattle.tfs_plan.specs.declared.chain.Found.{Found}
use Rattle.tfs_plan.proofs.ChainLemmas.{snoc_at, no_steps, chains_more, element_at}

-- An instance keeps its step.
pub steps_stay : (old new : List Step) (u : ℕ) → Extends old new → HasStep old u → HasStep new u
steps_stay old new u longer has = (has.0, has.1, longer has.0 has.1 has.2, has.3)

-- Changed instances keep their steps.
pub starts_stay : (d : Document) (starts : List ℕ) (old new : List Step) (i : ℕ) → Extends old new → HasStart d starts old i → HasStart d starts new i
starts_stay d starts old new i longer has v at low = steps_stay old new v longer (has v at low)

-- A search that finds nothing more keeps what it has.
pub grows_refl : (d : Document) (starts : List ℕ) (found : Found) → Grows d starts found found
grows_refl d starts found = record { search = λ below is. is; longer = λ k s e. e }

-- What is kept twice is kept.
pub grows_trans : (d : Document) (starts : List ℕ) (a b c : Found) → Grows d starts a b → Grows d starts b c → Grows d starts a c
grows_trans d starts a b c one other = record {
  search = λ below is. other.search below (one.search below is);
  longer = λ k s e. other.longer k s (one.longer k s e);
}

-- A mark is the one that is set, or an earlier one.
mark_at : (marks : List Bool) (i u : ℕ) → slice_get (set marks i true) u ≡ Some true → (u ≡ i) ⊎ (slice_get marks u ≡ Some true)
mark_at [] i u e = inr e
mark_at (m ∷ marks) zero zero e = inl refl
mark_at (m ∷ marks) zero (suc u) e = inr e
mark_at (m ∷ marks) (suc i) zero e = inr e
mark_at (m ∷ marks) (suc i) (suc u) e = elim (mark_at marks i u e) [
  | inl same ↦ inl (ap (λ n. suc n) same)
  | inr old ↦ inr old
]

-- One instance fewer is left once a mark is set.
left_fewer : (marks : List Bool) (i : ℕ) → slice_get marks i ≡ Some false → left (set marks i true) + 1 ≡ left marks
left_fewer marks i free =
    let moved = sum_by-set unfound marks i true false (slice_get_within marks i false free) in
    let one : unfound (get_or marks i false) ≡ 1 = ap unfound (get_or_from_slice_get marks i false false free) in
    omega (arith, moved, one)

module _ (d : Document) (starts : List ℕ) (old new : Found) (step : Step)
    (steps_are : new.steps.items ≡ old.steps.items ++ step ∷ []) (marks_are : new.is_found.items ≡ set old.is_found.items step.instance true) where
  longer : Extends old.steps.items new.steps.items
  longer k s e = subst (λ (xs : List Step). slice_get xs k ≡ Some s) (sym steps_are) (slice_get_longer old.steps.items (step ∷ []) k s e)

  -- The appended step is there.
  pub has_new : HasStep new.steps.items step.instance
  has_new = (
    length old.steps.items,
    step,
    subst (λ (xs : List Step). slice_get xs (length old.steps.items) ≡ Some step) (sym steps_are) (slice_get_last old.steps.items step),
    refl,
  )

  long : length new.steps.items ≡ length old.steps.items + 1
  long = ap (λ (xs : List Step). length xs) steps_are ∙ length-append old.steps.items (step ∷ [])

  closed_more : (below : ℕ) → IsSearch d starts below old → AreClosed d new.steps.items below
  closed_more below is k s u under at depends =
      elim (snoc_at old.steps.items step k s (subst (λ (xs : List Step). slice_get xs k ≡ Some s) steps_are at)) [
        | inl before ↦ steps_stay old.steps.items new.steps.items u longer (is.closed k s u under before depends)
        | inr last ↦ absurd (let place = is.place in let same = last.0 in omega arith)
      ]

  marked_more : (below : ℕ) → IsSearch d starts below old → (u : ℕ) → slice_get new.is_found.items u ≡ Some true → HasStep new.steps.items u
  marked_more below is u at =
      elim (mark_at old.is_found.items step.instance u (subst (λ (xs : List Bool). slice_get xs u ≡ Some true) marks_are at)) [
        | inl same ↦ subst (λ v. HasStep new.steps.items v) (sym same) has_new
        | inr before ↦ steps_stay old.steps.items new.steps.items u longer (is.marked u before)
      ]

  -- A step of an instance without one may be appended.
  pub grows_more : step.instance < length d.instances → slice_get old.is_found.items step.instance ≡ Some false
      → Follows d starts old.steps.items (length old.steps.items) step.instance step.before → Grows d starts old new
  grows_more low free follows = record {
    search = λ below is. record {
      chains = subst (AreChains d starts) (sym steps_are) (chains_more d starts old.steps.items step is.chains low follows);
      place = (let place = is.place in omega (arith, long));
      closed = closed_more below is;
      marked = marked_more below is;
      size = ap (λ (xs : List Bool). length xs) marks_are ∙ length-set old.is_found.items step.instance true ∙ is.size;
      count =
          let marks : left new.is_found.items ≡ left (set old.is_found.items step.instance true) = ap (λ (xs : List Bool). left xs) marks_are in
          let fewer = left_fewer old.is_found.items step.instance free in
          let count = is.count in
          omega (arith, marks, fewer, count, long);
    };
    longer = longer;
  }

-- A mark that isn't false is true.
pub marked_or_free : (marks : List Bool) (u : ℕ) → u < length marks → (slice_get marks u ≡ Some false → ⊥) → slice_get marks u ≡ Some true
marked_or_free [] u low not_free = absurd (omega arith)
marked_or_free (true ∷ marks) zero low not_free = refl
marked_or_free (false ∷ marks) zero low not_free = absurd (not_free refl)
marked_or_free (m ∷ marks) (suc u) low not_free = marked_or_free marks u (omega arith) not_free

-- The next place is closed once each instance that depends on its own has a step.
pub closed_next : (d : Document) (starts : List ℕ) (old new : Found) (place : ℕ) (step : Step) → Grows d starts old new → IsSearch d starts place old
    → slice_get old.steps.items place ≡ Some step → ((w : ℕ) → w < length d.instances → DependsOn d w step.instance → HasStep new.steps.items w)
    → IsSearch d starts (place + 1) new
closed_next d starts old new place step grows is at each =
    let search = grows.search place is in
    let there = grows.longer place step at in record {
      chains = search.chains;
      place = (let low = slice_get_within new.steps.items place step there in omega arith);
      closed = λ k s u under here depends. elim (cases_eq k place) [
        | inl same ↦
            let own : Some s ≡ Some step = sym here ∙ ap (slice_get new.steps.items) same ∙ there in
            let is_step : s ≡ step = cc in
            let found = depends.found in
            each u (slice_get_within d.instances u depends.instance found) (subst (λ (t : Step). DependsOn d u t.instance) is_step depends)
        | inr other ↦ search.closed k s u (omega (arith, under, other)) here depends
      ];
      marked = search.marked;
      size = search.size;
      count = search.count;
    }

-- An instance that leads to one with a step has a step.
led_back : (d : Document) (steps : List Step) → AreClosed d steps (length steps) → (u v : ℕ) (between : List ℕ) → Chain (DependsOn d) u between v
    → HasStep steps v → HasStep steps u
led_back d steps closed u v [] chain has =
    closed has.0 has.1 u (slice_get_within steps has.0 has.1 has.2) has.2 (subst (λ w. DependsOn d u w) (sym has.3) chain)
led_back d steps closed u v (m ∷ between) chain has =
    let next = led_back d steps closed m v between chain.1 has in
    closed next.0 next.1 u (slice_get_within steps next.0 next.1 next.2) next.2 (subst (λ w. DependsOn d u w) (sym next.3) chain.0)

-- A changed instance of the state has a step.
start_has : (d : Document) (starts : List ℕ) (steps : List Step) → AreWhole d starts steps → (v : ℕ) → Contains starts v → v < length d.instances → HasStep steps v
start_has d starts steps whole v has low = whole.started has.0 v (slice_get-get_or starts has.0 v has.1 ∙ ap Some has.2) low

-- Each instance that is changed or reached has a step.
pub led_has : (d : Document) (starts : List ℕ) (steps : List Step) → AreWhole d starts steps → (u : ℕ) → IsLed d starts u → HasStep steps u
led_has d starts steps whole u led = elim led.1 [
  | inl own ↦ start_has d starts steps whole u own led.0
  | inr far ↦
      let chain = chain_of_joins (DependsOn d) u far.0 far.2 in
      let last = end_of_chain (DependsOn d) u far.0 chain.0 chain.1 in
      led_back d steps whole.closed u far.0 chain.0 chain.1 (start_has d starts steps whole far.0 far.1 (target_within d last.0 far.0 last.1))
]

-- A search begins with no steps.
pub search_begins : (d : Document) (starts : List ℕ) (found : Found) → found.steps.items ≡ [] → found.is_found.items ≡ replicate (length d.instances) false
    → IsSearch d starts 0 found
search_begins d starts found steps marks =
    let n = length d.instances in
    let size : length found.is_found.items ≡ n = ap (λ (xs : List Bool). length xs) marks ∙ length-replicate n false in
    let free : left found.is_found.items ≡ n * 1 = ap (λ (xs : List Bool). left xs) marks ∙ sum_by-replicate unfound n false in
    let none : length found.steps.items ≡ 0 = ap (λ (xs : List Step). length xs) steps in record {
      chains = subst (AreChains d starts) (sym steps) (no_steps d starts);
      place = omega arith;
      closed = λ k s u under at depends. absurd (omega arith);
      marked = λ u at.
          let low = slice_get_within found.is_found.items u true at in
          let is : get_or found.is_found.items u true ≡ true = get_or_from_slice_get found.is_found.items u true true at in
          let not : get_or found.is_found.items u true ≡ false = ap (λ (xs : List Bool). get_or xs u true) marks ∙ get_or-replicate n u false true (omega (arith, low, size)) in
          absurd (true≢false (sym is ∙ not));
      size = size;
      count = omega (arith, none, free);
    }

-- A place of a step stays one.
pub place_stays : (old new : List Step) (k : ℕ) → Extends old new → k < length old → k < length new
place_stays old new k longer low = let at = element_at old k low in slice_get_within new k at.0 (longer k at.0 at.1)

-- What has a step below a number, and at it, has one up to it.
pub next_joined : (d : Document) (old new : List Step) (u : ℕ) (s : Step) → Extends old new
    → ((w : ℕ) → w < u → DependsOn d w s.instance → HasStep old w) → (DependsOn d u s.instance → HasStep new u)
    → (w : ℕ) → w < u + 1 → DependsOn d w s.instance → HasStep new w
next_joined d old new u s longer before here w low depends = elim (cases_eq w u) [
  | inl same ↦ subst (λ n. HasStep new n) (sym same) (here (subst (λ n. DependsOn d n s.instance) same depends))
  | inr other ↦ steps_stay old new w longer (before w (omega (arith, low, other)) depends)
]

-- The same for changed instances.
pub next_started : (d : Document) (starts : List ℕ) (old new : List Step) (from i : ℕ) → Extends old new
    → ((k : ℕ) → from ≤ k → k < i → HasStart d starts old k) → HasStart d starts new i
    → (k : ℕ) → from ≤ k → k < i + 1 → HasStart d starts new k
next_started d starts old new from i longer before here k after low = elim (cases_eq k i) [
  | inl same ↦ subst (λ n. HasStart d starts new n) (sym same) here
  | inr other ↦ starts_stay d starts old new k longer (before k after (omega (arith, low, other)))
]

-- Two parts of the changed instances are all of them.
pub all_started : (d : Document) (starts : List ℕ) (old new : List Step) (count : ℕ) → Extends old new
    → ((k : ℕ) → 0 ≤ k → k < count → HasStart d starts old k) → ((k : ℕ) → count ≤ k → k < length starts → HasStart d starts new k)
    → (k : ℕ) → HasStart d starts new k
all_started d starts old new count longer first rest k v at low = elim (cases_lt k count) [
  | inl under ↦ starts_stay d starts old new k longer (first k (omega arith) under) v at low
  | inr over ↦ rest k (omega arith) (slice_get_within starts k v at) v at low
]
