-- Lemmas about specs/Impact.antt.
use Rattle.std.proofs.Common.{◌≡◌, ◌≢◌, ◌↔◌, ℕ, suc, zero, ◌+◌, ◌<◌, ◌≤◌, Bool, true, false, ◌&&◌, ◌||◌, cond, not, IsTrue, List, []}
use Rattle.std.proofs.Common.{◌∷◌, length, map, Option, Some, None, is_some, IfSome, option_map}
use Rattle.std.proofs.Common.{nat_eq, nat_lt, get_or, filter, position, Bor, add-one}
use Rattle.std.proofs.Common.{refl, sym, ap, ap₂, subst, ◌∙◌, arith}
use Rattle.std.specs.Cmp.Lexicographic.{pointwise, same_text}
use Rattle.std.specs.FinSet.{contains}
use Rattle.std.specs.List.{list_any, list_all, prefix_len, range_with_len}
use Rattle.std.proofs.Math.ListN.{length-map}
use Rattle.std.proofs.lemmas.Bool.{false≢true, ne_eqb, lt-ltb, le-ltb, cond-true, cond-false}
use Rattle.std.proofs.lemmas.Bool.Decides.{same_from_decides}
use Rattle.std.proofs.lemmas.List.Elements.{filter_agree}
use Rattle.std.proofs.lemmas.List.Folds.{list_any_at}
use Rattle.std.proofs.lemmas.List.FromFn.{length-range_with_len, get_or-range_with_len}
use Rattle.tfs_planes.specs.Row.{NumberSet, rising_members}
use Rattle.tfs_planes.proofs.BitLemmas.{filter_range_skips}
use Rattle.tfs_state.specs.Document.{Document}
use Rattle.tfs_state.specs.Dependency.{address_of, config_of}
use Rattle.tfs_index.specs.Reach.{is_text}
use Rattle.tfs_index.specs.Impact.{names, named_by, is_unknown, is_reached, any_impact, all_impact, query_fault}
use Rattle.tfs_index.specs.declared.fault.ImpactFault.TheVariants.{NoAddress, TooManyAddresses, UnknownAddress, NoMemory}
use Rattle.tfs_index.proofs.ReachLemmas.{text_told, itself}

-- ---- names

-- A test that decides whether a text equals another equals `is_text`.
same_answer : (o : Option (List ℕ)) (own text : List ℕ) (r : Bool) → o ≡ Some own → IsTrue r ↔ (own ≡ text) → r ≡ is_text o text
same_answer o own text r at told =
    same_from_decides {P = own ≡ text} r (is_text o text) told (
      λ is. let there : Some own ≡ Some text = sym at ∙ (text_told o text).0 is in let same : own ≡ text = cc in same,
      λ same. (text_told o text).1 (at ∙ ap Some same),
    )

module _ (d : Document) (text address : List ℕ) (v : ℕ) (r : Bool) (at : address_of d v ≡ Some address) (told : IsTrue r ↔ (address ≡ text)) where
  -- If the text is the address, the result is that it names the instance.
  pub named_by_address : r ≡ true → r ≡ names d text v
  unfolding names
  named_by_address is =
      is ∙ ap (λ b. b || is_text (config_of d v) text) (sym is ∙ same_answer (address_of d v) address text r at told)

  -- If the text is not the address, the result is whether it is the configuration address.
  pub named_by_config : (config : List ℕ) (e : Bool) → r ≡ false → config_of d v ≡ Some config → e ≡ pointwise nat_eq config text → e ≡ names d text v
  unfolding names
  named_by_config config e not found is =
      same_answer (config_of d v) config text e found (
        λ t. same_text config text (sym t ∙ is),
        λ same. is ∙ subst (λ t. pointwise nat_eq config t ≡ true) same (itself config),
      )
      ∙ ap (λ b. b || is_text (config_of d v) text) (sym not ∙ same_answer (address_of d v) address text r at told)

-- ---- what a text names

-- If no number below a bound passes a test, the filtered range is empty.
pub none_named : (p : ℕ → Bool) (n : ℕ) → ((k : ℕ) → k < n → p k ≡ false) → [] ≡ filter p (range_with_len 0 n)
none_named p zero none = refl
none_named p (suc n) none =
    filter_range_skips p n [] (none n (omega arith)) (none_named p n (λ k h. none k (omega arith)))
    ∙ ap (λ m. filter p (range_with_len 0 m)) (add-one n)

-- If some element passes a test, the filtered list is not empty.
pub some_named : (p : ℕ → Bool) (xs : List ℕ) → list_any p xs ≡ true → nat_eq (length (filter p xs)) 0 ≡ false
some_named p [] is = absurd (false≢true is)
some_named p (x ∷ xs) is =
    elim (p x) as (λ b. (b || list_any p xs) ≡ true → nat_eq (length (cond b (x ∷ filter p xs) (filter p xs))) 0 ≡ false) [
      | true ↦ λ one. ne_eqb (suc (length (filter p xs))) 0 (λ e. omega arith)
      | false ↦ λ rest. some_named p xs rest
    ] is

module _ (d : Document) (text : List ℕ) where
  -- If the text names an instance, it is not unknown.
  pub known : (v : ℕ) → v < length d.instances → names d text v ≡ true → false ≡ is_unknown d text
  unfolding is_unknown named_by
  known v h is =
      let long = length-range_with_len 0 (length d.instances) in
      let there = get_or-range_with_len 0 (length d.instances) v 0 h in
      sym (some_named (names d text) (range_with_len 0 (length d.instances))
      (list_any_at (names d text) (range_with_len 0 (length d.instances)) v 0 (omega (arith, long, h))
      (ap (names d text) (let same : get_or (range_with_len 0 (length d.instances)) v 0 ≡ v = omega (arith, there) in same) ∙ is)))

  -- If the text names no instance, it is unknown.
  pub unknown : ((v : ℕ) → v < length d.instances → names d text v ≡ false) → true ≡ is_unknown d text
  unfolding is_unknown named_by
  unknown none = ap (λ (xs : List ℕ). nat_eq (length xs) 0) (none_named (names d text) (length d.instances) none)

  -- If a named instance was found, the text is not unknown.
  pub found_known : (found : Option ℕ) → is_some found ≡ true → IfSome found (λ v. v < length d.instances) → IfSome found (λ v. names d text v ≡ true) →
      false ≡ is_unknown d text
  found_known None is within named = absurd (false≢true is)
  found_known (Some v) is within named = known v within named

-- ---- the fault of a query

module _ (d : Document) where
  -- If there is no text, the fault is NoAddress.
  pub no_text : (texts : List (List ℕ)) → length texts ≡ 0 → query_fault d texts ≡ Some NoAddress
  unfolding query_fault
  no_text [] e = refl
  no_text (text ∷ texts) e = absurd (omega arith)

  -- If there are more than 64 texts, the fault is TooManyAddresses.
  pub many_texts : (texts : List (List ℕ)) → 64 < length texts → query_fault d texts ≡ Some TooManyAddresses
  unfolding query_fault
  many_texts [] h = absurd (omega arith)
  many_texts (text ∷ texts) h =
      cond-true (nat_lt 64 (length (text ∷ texts))) (Some TooManyAddresses) (option_map UnknownAddress (position (is_unknown d) (text ∷ texts)))
      (lt-ltb 64 (length (text ∷ texts)) h)

  -- For 1 to 64 texts, the fault is that of the first unknown text.
  pub few_texts : (texts : List (List ℕ)) → length texts ≢ 0 → length texts ≤ 64 →
      query_fault d texts ≡ option_map UnknownAddress (position (is_unknown d) texts)
  unfolding query_fault
  few_texts [] some h = absurd (some refl)
  few_texts (text ∷ texts) some h =
      cond-false (nat_lt 64 (length (text ∷ texts))) (Some TooManyAddresses) (option_map UnknownAddress (position (is_unknown d) (text ∷ texts)))
      (le-ltb 64 (length (text ∷ texts)) h)

-- If there is no fault, there is at least one text.
pub some_text : (d : Document) (texts : List (List ℕ)) → query_fault d texts ≡ None → 0 < length texts
unfolding query_fault
some_text d [] e = cc
some_text d (text ∷ texts) e = omega arith

-- The fault of a query's texts is not NoMemory.
pub fault_of_texts : (d : Document) (texts : List (List ℕ)) → query_fault d texts ≡ Some NoMemory → ⊥
unfolding query_fault
fault_of_texts d [] e = cc
fault_of_texts d (text ∷ texts) e =
    elim (nat_lt 64 (length (text ∷ texts))) as (λ b. cond b (Some TooManyAddresses) (option_map UnknownAddress (position (is_unknown d) (text ∷ texts)))
    ≡ Some NoMemory → ⊥) [
      | true ↦ λ f. cc
      | false ↦ λ f. elim (position (is_unknown d) (text ∷ texts)) as (λ o. option_map UnknownAddress o ≡ Some NoMemory → ⊥) [
        | Some k ↦ λ g. cc
        | None ↦ λ g. cc
      ] f
    ] e

-- The length of the prefix that passes is the same for lent texts.
prefix_of_lent : {A B : Type 0} (h : A → B) (p : B → Bool) (xs : List A) → prefix_len (λ x. p (h x)) xs ≡ prefix_len p (map h xs)
prefix_of_lent h p [] = refl
prefix_of_lent h p (x ∷ xs) = ap (λ n. cond (p (h x)) (1 + n) 0) (prefix_of_lent h p xs)

-- The position of the first text that passes is the same for lent texts.
pub position_of_lent : {A B : Type 0} (h : A → B) (p : B → Bool) (xs : List A) → position (λ x. p (h x)) xs ≡ position p (map h xs)
position_of_lent h p xs =
    ap₂ (λ n m. cond (nat_lt n m) (Some n) None) (prefix_of_lent h (λ x. not (p x)) xs) (sym (length-map xs h))

-- For 1 to 64 texts, the first unknown text decides the fault.
pub few_found : (d : Document) (texts : List (Bor (List ℕ))) (found : Option ℕ) → length texts ≢ 0 → length texts ≤ 64 →
    found ≡ position (λ (text : Bor (List ℕ)). is_unknown d text.now) texts →
    option_map UnknownAddress found ≡ query_fault d (map (λ (text : Bor (List ℕ)). text.now) texts)
few_found d texts found some few is =
    let lent : List (List ℕ) = map (λ (text : Bor (List ℕ)). text.now) texts in
    let long = length-map texts (λ (text : Bor (List ℕ)). text.now) in
    ap (option_map UnknownAddress) (is ∙ position_of_lent (λ (text : Bor (List ℕ)). text.now) (is_unknown d) texts)
    ∙ sym (few_texts d lent (λ e. some (sym long ∙ e)) (omega (arith, long, few)))

-- ---- lists of members

-- Whether some text passes is the same for lent texts.
any_of_lent : {A B : Type 0} (h : A → B) (p : B → Bool) (xs : List A) → list_any (λ x. p (h x)) xs ≡ list_any p (map h xs)
any_of_lent h p [] = refl
any_of_lent h p (x ∷ xs) = ap (λ b. p (h x) || b) (any_of_lent h p xs)

-- Whether each text passes is the same for lent texts.
all_of_lent : {A B : Type 0} (h : A → B) (p : B → Bool) (xs : List A) → list_all (λ x. p (h x)) xs ≡ list_all p (map h xs)
all_of_lent h p [] = refl
all_of_lent h p (x ∷ xs) = ap (λ b. p (h x) && b) (all_of_lent h p xs)

-- If a property holds for the first and for each element, it holds for each element.
pub all_with_first : {A : Type 0} (p : A → Bool) (xs : List A) (d : A) → 0 < length xs → (p (get_or xs 0 d) && list_all p xs) ≡ list_all p xs
all_with_first p [] d h = absurd (omega (arith, h))
all_with_first p (x ∷ xs) d h = and_twice (p x) (list_all p xs)
  where
    and_twice : (a b : Bool) → (a && (a && b)) ≡ (a && b)
    and_twice true b = refl
    and_twice false b = refl

module _ (d : Document) (texts : List (Bor (List ℕ))) (row : NumberSet) (size : row.size ≡ length d.instances) where
  -- If a row has what some text reaches, its members are the impact of any of the texts.
  pub any_members : ((u : ℕ) → contains row.members u ≡ list_any (λ (text : Bor (List ℕ)). is_reached d text.now u) texts) →
      rising_members row ≡ any_impact d (map (λ (text : Bor (List ℕ)). text.now) texts)
  unfolding any_impact
  any_members told =
      ap (λ m. filter (contains row.members) (range_with_len 0 m)) size
      ∙ filter_agree (contains row.members) (λ u. list_any (λ text. is_reached d text u) (map (λ (text : Bor (List ℕ)). text.now) texts))
      (λ u. told u ∙ any_of_lent (λ (text : Bor (List ℕ)). text.now) (λ text. is_reached d text u) texts) (range_with_len 0 (length d.instances))

  -- If a row has what each text reaches, its members are the impact of all texts.
  pub all_members : ((u : ℕ) → contains row.members u ≡ list_all (λ (text : Bor (List ℕ)). is_reached d text.now u) texts) →
      rising_members row ≡ all_impact d (map (λ (text : Bor (List ℕ)). text.now) texts)
  unfolding all_impact
  all_members told =
      ap (λ m. filter (contains row.members) (range_with_len 0 m)) size
      ∙ filter_agree (contains row.members) (λ u. list_all (λ text. is_reached d text u) (map (λ (text : Bor (List ℕ)). text.now) texts))
      (λ u. told u ∙ all_of_lent (λ (text : Bor (List ℕ)). text.now) (λ text. is_reached d text u) texts) (range_with_len 0 (length d.instances))

module _ (d : Document) (texts : List (Bor (List ℕ))) (n : ℕ) (numbers : List ℕ) (end : n ≡ length d.instances) where
  -- The instances that some text reaches are the impact of any of the texts.
  pub any_filtered : numbers ≡ filter (λ u. list_any (λ (text : Bor (List ℕ)). is_reached d text.now u) texts) (range_with_len 0 n) →
      numbers ≡ any_impact d (map (λ (text : Bor (List ℕ)). text.now) texts)
  unfolding any_impact
  any_filtered told =
      told ∙ ap (λ m. filter (λ u. list_any (λ (text : Bor (List ℕ)). is_reached d text.now u) texts) (range_with_len 0 m)) end
      ∙ filter_agree (λ u. list_any (λ (text : Bor (List ℕ)). is_reached d text.now u) texts)
      (λ u. list_any (λ text. is_reached d text u) (map (λ (text : Bor (List ℕ)). text.now) texts))
      (λ u. any_of_lent (λ (text : Bor (List ℕ)). text.now) (λ text. is_reached d text u) texts) (range_with_len 0 (length d.instances))

  -- The instances that each text reaches are the impact of all texts.
  pub all_filtered : numbers ≡ filter (λ u. list_all (λ (text : Bor (List ℕ)). is_reached d text.now u) texts) (range_with_len 0 n) →
      numbers ≡ all_impact d (map (λ (text : Bor (List ℕ)). text.now) texts)
  unfolding all_impact
  all_filtered told =
      told ∙ ap (λ m. filter (λ u. list_all (λ (text : Bor (List ℕ)). is_reached d text.now u) texts) (range_with_len 0 m)) end
      ∙ filter_agree (λ u. list_all (λ (text : Bor (List ℕ)). is_reached d text.now u) texts)
      (λ u. list_all (λ text. is_reached d text u) (map (λ (text : Bor (List ℕ)). text.now) texts))
      (λ u. all_of_lent (λ (text : Bor (List ℕ)). text.now) (λ text. is_reached d text u) texts) (range_with_len 0 (length d.instances))

module _ (d : Document) (texts : List (List ℕ)) (none : length d.instances ≡ 0) where
  -- The impact of any is empty if the document has no instances.
  pub no_any : [] ≡ any_impact d texts
  unfolding any_impact
  no_any = ap (λ m. filter (λ u. list_any (λ text. is_reached d text u) texts) (range_with_len 0 m)) (sym none)

  -- The impact of all is empty if the document has no instances.
  pub no_all : [] ≡ all_impact d texts
  unfolding all_impact
  no_all = ap (λ m. filter (λ u. list_all (λ text. is_reached d text u) texts) (range_with_len 0 m)) (sym none)
