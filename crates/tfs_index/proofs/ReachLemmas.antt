-- Lemmas about specs/Reach.antt: its tests decide its relations.
use Rattle.std.proofs.Common.{◌≡◌, ◌↔◌, ℕ, zero, suc, ◌+◌, ◌<◌, Bool, true, ◌&&◌, IsTrue, List, [], ◌∷◌, length, Option, Some, None, nat_eq, option_and_then}
use Rattle.std.proofs.Common.{refl, sym, ap, subst, ◌∙◌, inl, inr, arith}
use Rattle.std.specs.List.{list_any, slice_get}
use Rattle.std.specs.Option.{option_map_or}
use Rattle.std.specs.Cmp.Lexicographic.{pointwise, same_text}
use Rattle.std.proofs.lemmas.Bool.{or_cases, or_left, or_right, and_parts, and_from, false≢true, eq-eqb}
use Rattle.std.proofs.lemmas.Option.{slice_get_within, slice_get-get_or, get_or_from_slice_get}
use Rattle.std.proofs.lemmas.List.Folds.{Any-from_list_any, list_any_at}
use Rattle.tfs_addr.specs.Address.{stripped_text}
use Rattle.tfs_planes.specs.Rounds.{Chain, JoinsBelow}
use Rattle.tfs_planes.specs.Walk.{Joins}
use Rattle.tfs_planes.proofs.WalkLemmas.{joins_below_zero, joins_below_one_pair, joins_below_more, joins_below_through, joins_below_cases}
use Rattle.tfs_planes.proofs.WalkLemmas.{joins_from_below, joins_below_from_joins, chain_of_joins, joins_of_chain, joins_pair, joins_on, joins_map}
use Rattle.tfs_state.specs.Document.{Document, Instance}
use Rattle.tfs_state.specs.Dependency.{DependsOn, config_of, instance_config}
use Rattle.tfs_index.specs.Reach.{Reaches, is_text, dependencies_of, lists, depends_on, joins_below, reaches}

-- ---- texts

-- A text equals itself.
pub itself : (xs : List ℕ) → pointwise nat_eq xs xs ≡ true
itself [] = refl
itself (x ∷ xs) = and_from (nat_eq x x) (pointwise nat_eq xs xs) (eq-eqb x x refl) (itself xs)

-- The test `is_text` decides whether there is a text and it is this one.
pub text_told : (o : Option (List ℕ)) (text : List ℕ) → IsTrue (is_text o text) ↔ (o ≡ Some text)
unfolding is_text
text_told None text = (λ is. absurd (false≢true is), λ is. cc)
text_told (Some own) text = (
  λ is. ap Some (same_text own text (sym is)),
  λ is. let same : own ≡ text = cc in subst (λ t. pointwise nat_eq own t ≡ true) same (itself own),
)

-- ---- dependencies

-- The dependency texts of an instance that exists are its dependencies.
texts_of_found : (d : Document) (u : ℕ) (instance : Instance) → slice_get d.instances u ≡ Some instance → dependencies_of d u ≡ instance.dependencies
texts_of_found d u instance found = ap (λ (o : Option Instance). option_map_or (λ (i : Instance). i.dependencies) o []) found

-- If there is a dependency text, there is an instance.
found_of_text : (o : Option Instance) (k : ℕ) → k < length (option_map_or (λ (i : Instance). i.dependencies) o []) → (instance : Instance) × (o ≡ Some instance)
found_of_text None k h = absurd (omega arith)
found_of_text (Some instance) k h = (instance, refl)

-- The test `depends_on` decides whether one instance depends on another.
module _ (d : Document) (u v : ℕ) where
  -- If the stripped texts of u include the configuration address of v, u depends on v.
  depends_from : (address : List ℕ) → config_of d v ≡ Some address → list_any (λ text. is_text (stripped_text text) address) (dependencies_of d u) ≡ true
      → DependsOn d u v
  depends_from address is any =
      let one = Any-from_list_any (λ text. is_text (stripped_text text) address) (dependencies_of d u) any in
      let found = found_of_text (slice_get d.instances u) one.0 one.2 in
      let same = texts_of_found d u found.0 found.1 in
      record {
        instance = found.0;
        found = found.1;
        text = one.1;
        place = one.0;
        listed = subst (λ (ts : List (List ℕ)). slice_get ts one.0 ≡ Some one.1) same
            (slice_get-get_or (dependencies_of d u) one.0 one.1 one.2 ∙ ap Some one.3);
        address = address;
        stripped = (text_told (stripped_text one.1) address).0 one.4;
        same = is;
      }

  -- The test decides whether instance u depends on instance v.
  pub depends_told : IsTrue (depends_on d u v) ↔ DependsOn d u v
  unfolding depends_on lists
  depends_told = (
    elim (config_of d v) as (λ o. config_of d v ≡ o → lists (dependencies_of d u) o ≡ true → DependsOn d u v) [
      | None ↦ λ is any. absurd (false≢true any)
      | Some address ↦ λ is any. depends_from address is any
    ] refl,
    λ depends.
        let same = texts_of_found d u depends.instance depends.found in
        let listed : slice_get (dependencies_of d u) depends.place ≡ Some depends.text =
        ap (λ (ts : List (List ℕ)). slice_get ts depends.place) same ∙ depends.listed in
        let is : is_text (stripped_text depends.text) depends.address ≡ true = (text_told (stripped_text depends.text) depends.address).1 depends.stripped in
        subst (λ (o : Option (List ℕ)). lists (dependencies_of d u) o ≡ true) (sym depends.same)
        (list_any_at (λ text. is_text (stripped_text text) depends.address) (dependencies_of d u) depends.place depends.text
        (slice_get_within (dependencies_of d u) depends.place depends.text listed)
        (subst (λ (t : List ℕ). is_text (stripped_text t) depends.address ≡ true)
        (sym (get_or_from_slice_get (dependencies_of d u) depends.place depends.text depends.text listed)) is)),
  )

  -- A number that depends on another is the number of an instance.
  pub depends_within : DependsOn d u v → u < length d.instances
  depends_within depends = slice_get_within d.instances u depends.instance depends.found

  -- A number on which another depends is the number of an instance.
  pub target_within : DependsOn d u v → v < length d.instances
  target_within depends =
      elim (slice_get d.instances v) as (λ o. slice_get d.instances v ≡ o → option_and_then instance_config o ≡ Some depends.address → v < length d.instances) [
        | Some instance ↦ λ is e. slice_get_within d.instances v instance is
        | None ↦ λ is e. cc
      ] refl depends.same

-- ---- walks

-- The test `joins_below` decides whether a walk with inner numbers below a bound leads from i to j.
pub joins_told : (related : ℕ → ℕ → Bool) (k i j : ℕ) → IsTrue (joins_below related k i j) ↔ JoinsBelow (λ a b. IsTrue (related a b)) k i j
unfolding joins_below
joins_told related zero i j =
    let R : ℕ → ℕ → Type 0 = λ a b. IsTrue (related a b) in (joins_below_one_pair R 0 i j, joins_below_zero R i j)
joins_told related (suc k) i j =
    let R : ℕ → ℕ → Type 0 = λ a b. IsTrue (related a b) in
    let more : suc k ≡ k + 1 = omega arith in
    let straight = joins_told related k i j in
    let first = joins_told related k i k in
    let second = joins_told related k k j in
    let through : Bool = joins_below related k i k && joins_below related k k j in (
      λ is. elim (or_cases (joins_below related k i j) through is) [
        | inl avoids ↦ joins_below_more R k (suc k) i j (omega arith) (straight.0 avoids)
        | inr passes ↦
            let parts = and_parts (joins_below related k i k) (joins_below related k k j) passes in
            joins_below_through R (suc k) k i j (omega arith) (joins_below_more R k (suc k) i k (omega arith) (first.0 parts.0))
            (joins_below_more R k (suc k) k j (omega arith) (second.0 parts.1))
      ],
      λ walk.
          let turned = subst (λ h. JoinsBelow R h i j) more walk in
          elim (joins_below_cases R k i j turned.0 turned.1 turned.2) [
            | inl avoids ↦ or_left (joins_below related k i j) through (straight.1 avoids)
            | inr passes ↦ or_right (joins_below related k i j) through
                (and_from (joins_below related k i k) (joins_below related k k j) (first.1 passes.0) (second.1 passes.1))
          ],
    )

-- The test `reaches` decides whether instance v reaches instance u.
pub reach_told : (d : Document) (v u : ℕ) → IsTrue (reaches d v u) ↔ Reaches d v u
unfolding reaches
reach_told d v u =
    let R : ℕ → ℕ → Type 0 = λ a b. IsTrue (depends_on d a b) in
    let told = joins_told (depends_on d) (length d.instances) u v in (
      λ is. joins_map R (DependsOn d) (λ a b. (depends_told d a b).0) u v (joins_from_below R (length d.instances) u v (told.0 is)),
      λ walk. told.1 (joins_below_from_joins R (length d.instances) u v (λ a b r. depends_within d a b ((depends_told d a b).0 r))
          (joins_map (DependsOn d) R (λ a b. (depends_told d a b).1) u v walk)),
    )

-- Reversing every pair of a chain gives a walk from its end to its start.
turned_chain : (R S : ℕ → ℕ → Type 0) → ((a b : ℕ) → R a b → S b a) → (i j : ℕ) (ms : List ℕ) → Chain R i ms j → Joins S j i
turned_chain R S turn i j [] chain = joins_pair S j i (turn i j chain)
turned_chain R S turn i j (m ∷ ms) chain = joins_on S j m i (turned_chain R S turn m j ms chain.1) (turn i m chain.0)

-- Reversing every pair of a walk gives a walk from its end to its start.
pub turned_walk : (R S : ℕ → ℕ → Type 0) → ((a b : ℕ) → R a b → S b a) → (i j : ℕ) → Joins R i j → Joins S j i
turned_walk R S turn i j walk = let chain = chain_of_joins R i j walk in turned_chain R S turn i j chain.0 chain.1

-- ---- one configuration address

-- If every number related to j is related to k, a chain to j is a chain to k.
other_end : (R : ℕ → ℕ → Type 0) (i j k : ℕ) (ms : List ℕ) → ((a : ℕ) → R a j → R a k) → Chain R i ms j → Chain R i ms k
other_end R i j k [] on pair = on i pair
other_end R i j k (m ∷ ms) on chain = (chain.0, other_end R m j k ms on chain.1)

-- Instances with the same configuration address reach the same instances.
pub reaches_alike : (d : Document) (v w u : ℕ) → config_of d v ≡ config_of d w → Reaches d v u → Reaches d w u
reaches_alike d v w u same walk =
    let chain = chain_of_joins (DependsOn d) u v walk in
    joins_of_chain (DependsOn d) u w chain.0 (other_end (DependsOn d) u v w chain.0 ends chain.1)
  where
    ends : (a : ℕ) → DependsOn d a v → DependsOn d a w
    ends a depends = record {
      instance = depends.instance;
      found = depends.found;
      text = depends.text;
      place = depends.place;
      listed = depends.listed;
      address = depends.address;
      stripped = depends.stripped;
      same = sym same ∙ depends.same;
    }
