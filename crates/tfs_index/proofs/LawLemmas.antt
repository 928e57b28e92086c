-- The functions of specs/Impact.antt decide its relations.
use Rattle.std.proofs.Common.{◌≡◌, ◌↔◌, ◌⊎◌, ℕ, suc, zero, ◌+◌, ◌<◌, ◌≤◌, Bool, true, ◌&&◌}
use Rattle.std.proofs.Common.{IsTrue, List, [], ◌∷◌, length, filter, Some, None, eqb, option_map, option_and_then, Contains}
use Rattle.std.proofs.Common.{refl, sym, ap, subst, ◌∙◌, inl, inr, arith}
use Rattle.std.specs.List.{list_any, list_all, range_with_len, slice_get}
use Rattle.std.specs.List.Sorted.{IsStrictlyIncreasing}
use Rattle.std.proofs.lemmas.Bool.{cases_lt, or_cases, or_left, or_right, and_parts, and_from, false≢true, eq-eqb, eqb-true}
use Rattle.std.proofs.lemmas.List.Folds.{Any-from_list_any, list_any_at}
use Rattle.std.proofs.lemmas.List.FromFn.{length-range_with_len, get_or-range_with_len}
use Rattle.std.proofs.lemmas.List.Kept.{IsStrictlyIncreasing-filter}
use Rattle.std.proofs.lemmas.Map.Views.{any-filter_same}
use Rattle.std.proofs.lemmas.Option.{slice_get_within}
use Rattle.tfs_addr.specs.Address.{instance_address}
use Rattle.tfs_planes.proofs.BitLemmas.{any_in_range, none_in_range}
use Rattle.tfs_planes.proofs.WalkLemmas.{start_of_joins}
use Rattle.tfs_state.specs.Document.{Document, Instance}
use Rattle.tfs_state.specs.Dependency.{DependsOn, address_of, config_of, instance_config}
use Rattle.tfs_index.specs.Reach.{is_text, reaches}
use Rattle.tfs_index.specs.Impact.{names, named_by, is_reached, any_impact, all_impact, Names, IsReached, IsReachedBySome, IsReachedByEach, IsRisingListOf}
use Rattle.tfs_index.proofs.ReachLemmas.{text_told, depends_within, reach_told}

-- ---- lists

-- The test for an element decides whether the list contains it.
pub member_told : (xs : List ℕ) (x : ℕ) → (list_any (λ y. eqb y x) xs ≡ true) ↔ Contains xs x
member_told xs x = (
  λ is. let one = Any-from_list_any (λ y. eqb y x) xs is in subst (Contains xs) (eqb-true one.1 x one.4) (one.0, one.2, one.3),
  λ there. list_any_at (λ y. eqb y x) xs there.0 x there.1 (ap (λ y. eqb y x) there.2 ∙ eq-eqb x x refl),
)

-- The filtered range contains the numbers below the bound that pass the test.
passed_told : (p : ℕ → Bool) (n u : ℕ) → Contains (filter p (range_with_len 0 n)) u ↔ ((u < n) × (p u ≡ true))
passed_told p n u =
    let split : list_any (λ y. eqb y u) (filter p (range_with_len 0 n)) ≡ (p u && list_any (λ y. eqb y u) (range_with_len 0 n)) =
    any-filter_same (λ y. eqb y u) p (p u) (λ x is. ap p (eqb-true x u is)) (range_with_len 0 n) in
    let told = member_told (filter p (range_with_len 0 n)) u in (
      λ there.
          let both = and_parts (p u) (list_any (λ y. eqb y u) (range_with_len 0 n)) (sym split ∙ told.1 there) in (
            (elim (cases_lt u n) [
              | inl below ↦ below
              | inr past ↦ absurd (false≢true (sym (none_in_range 0 n u (inr (let h : 0 + n ≤ u = omega arith in h))) ∙ both.1))
            ]),
            both.0,
          ),
      λ both. told.0 (split ∙ and_from (p u) (list_any (λ y. eqb y u) (range_with_len 0 n)) both.1
          (any_in_range 0 n u (omega arith) (let below = both.0 in omega arith))),
    )

-- A filtered range is strictly increasing.
passed_rise : (p : ℕ → Bool) (n : ℕ) → IsStrictlyIncreasing (filter p (range_with_len 0 n))
passed_rise p n =
    IsStrictlyIncreasing-filter p (range_with_len 0 n)
    (λ k h. let long = length-range_with_len 0 n in
    let here = get_or-range_with_len 0 n k 0 (omega arith) in
    let next = get_or-range_with_len 0 n (k + 1) 0 (omega arith) in
    omega arith)

module _ {X : Type 0} (p : X → Bool) where
  -- If the first element and each element of the rest pass a test, each element passes it.
  each_of_all : (x : X) (xs : List X) → p x ≡ true → ((y : X) → Contains xs y → p y ≡ true) → (y : X) → Contains (x ∷ xs) y → p y ≡ true
  each_of_all x xs first rest y (zero, h, e) = ap p (sym e) ∙ first
  each_of_all x xs first rest y (suc k, h, e) = rest y (k, (omega arith), e)

  -- The test of all elements decides whether each passes.
  all_pass : (xs : List X) → (list_all p xs ≡ true) ↔ ((x : X) → Contains xs x → p x ≡ true)
  all_pass [] = (λ is x there. absurd (let h = there.1 in omega arith), λ each. refl)
  all_pass (x ∷ xs) =
      let rest = all_pass xs in (
        λ is. let both = and_parts (p x) (list_all p xs) is in each_of_all x xs both.0 (rest.0 both.1),
        λ each. and_from (p x) (list_all p xs) (each x (0, (omega arith), refl))
            (rest.1 (λ y there. each y (suc there.0, (let h = there.1 in omega arith), there.2))),
      )

-- ---- names

module _ (d : Document) (text : List ℕ) where
  -- The test `names` decides whether a text names an instance.
  pub names_told : (v : ℕ) → IsTrue (names d text v) ↔ Names d text v
  unfolding names
  names_told v = (
    λ is. elim (or_cases (is_text (address_of d v) text) (is_text (config_of d v) text) is) [
      | inl one ↦ inl ((text_told (address_of d v) text).0 one)
      | inr other ↦ inr ((text_told (config_of d v) text).0 other)
    ],
    λ named. elim named [
      | inl one ↦ or_left (is_text (address_of d v) text) (is_text (config_of d v) text) ((text_told (address_of d v) text).1 one)
      | inr other ↦ or_right (is_text (address_of d v) text) (is_text (config_of d v) text) ((text_told (config_of d v) text).1 other)
    ],
  )

  -- A number that a text names is the number of an instance.
  pub names_within : (v : ℕ) → Names d text v → v < length d.instances
  names_within v named =
      elim (slice_get d.instances v) as (λ o. slice_get d.instances v ≡ o →
      (option_map (λ (u : Instance). instance_address u.path u.mode u.kind u.name u.key u.deposed) o ≡ Some text) ⊎
      (option_and_then instance_config o ≡ Some text) →
      v < length d.instances) [
        | Some instance ↦ λ is e. slice_get_within d.instances v instance is
        | None ↦ λ is e. elim e [ inl one ↦ cc | inr other ↦ cc ]
      ] refl named

  -- The list `named_by` contains exactly the instances that a text names.
  pub named_told : (v : ℕ) → Contains (named_by d text) v ↔ Names d text v
  unfolding named_by
  named_told v =
      let told = passed_told (names d text) (length d.instances) v in (
        λ there. (names_told v).0 ((told.0 there).1),
        λ named. told.1 (names_within v named, (names_told v).1 named),
      )

  -- The test `is_reached` decides whether an instance that the text names reaches another.
  pub reached_told : (u : ℕ) → IsTrue (is_reached d text u) ↔ IsReached d text u
  unfolding is_reached
  reached_told u = (
    λ is.
        let one = Any-from_list_any (λ v. reaches d v u) (named_by d text) is in
        record { from = one.1; named = (named_told one.1).0 (one.0, one.2, one.3); reaches = (reach_told d one.1 u).0 one.4 },
    λ reached.
        let there = (named_told reached.from).1 reached.named in
        list_any_at (λ v. reaches d v u) (named_by d text) there.0 reached.from there.1
        (ap (λ v. reaches d v u) there.2 ∙ (reach_told d reached.from u).1 reached.reaches),
  )

  -- A number that is reached is the number of an instance.
  reached_within : (u : ℕ) → IsReached d text u → u < length d.instances
  reached_within u reached = let first = start_of_joins (DependsOn d) u reached.from reached.reaches in depends_within d u first.0 first.1

-- ---- impact

module _ (d : Document) (texts : List (List ℕ)) where
  -- The impact of any contains exactly the instances that some text reaches.
  pub any_told : (u : ℕ) → Contains (any_impact d texts) u ↔ IsReachedBySome d texts u
  unfolding any_impact
  any_told u =
      let p : List ℕ → Bool = λ text. is_reached d text u in
      let told = passed_told (λ w. list_any (λ text. is_reached d text w) texts) (length d.instances) u in (
        λ there.
            let one = Any-from_list_any p texts ((told.0 there).1) in
            record { text = one.1; given = (one.0, one.2, one.3); reached = (reached_told d one.1 u).0 one.4 },
        λ some. told.1 (
          reached_within d some.text u some.reached,
          list_any_at p texts some.given.0 some.text some.given.1 (ap p some.given.2 ∙ (reached_told d some.text u).1 some.reached),
        ),
      )

  -- The impact of all contains exactly the instances that each text reaches.
  pub all_told : (u : ℕ) → Contains (all_impact d texts) u ↔ IsReachedByEach d texts u
  unfolding all_impact
  all_told u =
      let p : List ℕ → Bool = λ text. is_reached d text u in
      let told = passed_told (λ w. list_all (λ text. is_reached d text w) texts) (length d.instances) u in (
        λ there.
            let both = told.0 there in
            record { within = both.0; reached = λ text given. (reached_told d text u).0 ((all_pass p texts).0 both.1 text given) },
        λ each. told.1 (each.within, (all_pass p texts).1 (λ text given. (reached_told d text u).1 (each.reached text given))),
      )

  -- The impact of any is strictly increasing.
  pub any_rises : IsStrictlyIncreasing (any_impact d texts)
  unfolding any_impact
  any_rises = passed_rise (λ u. list_any (λ text. is_reached d text u) texts) (length d.instances)

  -- The impact of all is strictly increasing.
  pub all_rises : IsStrictlyIncreasing (all_impact d texts)
  unfolding all_impact
  all_rises = passed_rise (λ u. list_all (λ text. is_reached d text u) texts) (length d.instances)

  -- A list equal to the impact of any has exactly the instances that some text reaches, in
  -- ascending order.
  pub any_listed : (numbers : List ℕ) → numbers ≡ any_impact d texts → IsRisingListOf (IsReachedBySome d texts) numbers
  any_listed numbers is = subst (IsRisingListOf (IsReachedBySome d texts)) (sym is) (record { rises = any_rises; members = any_told })

  -- A list equal to the impact of all has exactly the instances that each text reaches, in
  -- ascending order.
  pub all_listed : (numbers : List ℕ) → numbers ≡ all_impact d texts → IsRisingListOf (IsReachedByEach d texts) numbers
  all_listed numbers is = subst (IsRisingListOf (IsReachedByEach d texts)) (sym is) (record { rises = all_rises; members = all_told })
