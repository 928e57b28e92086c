-- Lemmas about specs/Index.antt.
use Rattle.std.proofs.Common.{◌≡◌, ◌↔◌, ℕ, ◌+◌, ◌<◌, Bool, true, false, ◌&&◌, ◌||◌, List, [], ◌∷◌, length, ltb, leb, eqb, Some, None}
use Rattle.std.proofs.Common.{refl, sym, ap, ap₂, subst, ◌∙◌, inl, inr, arith}
use Rattle.std.specs.List.{list_any, slice_get}
use Rattle.std.specs.Option.{option_map_or}
use Rattle.std.specs.FinSet.{contains, insert, contains-insert}
use Rattle.std.proofs.lemmas.Bool.{cases_eq, cases_lt, cases_order, eq-eqb, ne_eqb, lt-ltb, le-ltb}
use Rattle.std.proofs.lemmas.Bool.{le-leb, lt-leb, or_right, or_from, and_left, and_right, false_from_ne_true}
use Rattle.std.proofs.lemmas.Bool.Decides.{same_from_decides}
use Rattle.std.proofs.lemmas.Option.{slice_get-get_or}
use Rattle.tfs_planes.specs.Relation.{Relation, Relates}
use Rattle.tfs_planes.specs.Walk.{Joins}
use Rattle.tfs_planes.proofs.RelationLemmas.{pair_cmp_total, same_pair}
use Rattle.tfs_state.specs.Document.{Document}
use Rattle.tfs_state.specs.Dependency.{DependsOn}
use Rattle.tfs_state.specs.Numbering.{NumberTable, IsNumbering}
use Rattle.tfs_index.specs.Reach.{depends_on}
use Rattle.tfs_index.specs.Links.{has_number, IsBehindLast}
use Rattle.tfs_index.specs.Index.{HasDependents, HasReached}
use Rattle.tfs_index.proofs.LinkLemmas.{has_past}
use Rattle.tfs_index.proofs.ReachLemmas.{depends_told, depends_within, target_within, turned_walk}

-- ---- the closed plane

-- The closure of the plane of dependents relates each instance to those that it reaches.
pub closed_plane : (d : Document) (old new : Relation) → HasDependents d old → new.size ≡ old.size →
    ((i j : ℕ) → Relates new i j ↔ Joins (Relates old) i j) → HasReached d new
closed_plane d old new dependents size walks = record {
  size = size ∙ dependents.size;
  walks = λ v u. (
    λ is. turned_walk (Relates old) (DependsOn d) (λ a b r. (depends_told d b a).0 (sym (dependents.pairs a b) ∙ r)) v u ((walks v u).0 is),
    λ walk. (walks v u).1 (turned_walk (DependsOn d) (Relates old) (λ a b r. dependents.pairs b a ∙ (depends_told d a b).1 r) u v walk),
  );
}

-- ---- pairs that are added

-- A case added as a separate conjunction equals the case added inside the conjunction.
one_more : (before same some here : Bool) → ((here && same) || (before || (same && some))) ≡ (before || (same && (some || here)))
one_more true true some true = refl
one_more true true some false = refl
one_more true false some true = refl
one_more true false some false = refl
one_more false true true true = refl
one_more false true false true = refl
one_more false true true false = refl
one_more false true false false = refl
one_more false false some true = refl
one_more false false some false = refl

-- Adding a case that is false changes nothing.
pub nothing_more : (before same some : Bool) → some ≡ false → before ≡ (before || (same && some))
nothing_more true same some e = refl
nothing_more false true some e = sym e
nothing_more false false some e = refl

module _ (numbers : List ℕ) (k : ℕ) where
  -- No instance from the last place on has the number.
  pub walk_start : (place v : ℕ) → IsBehindLast numbers k (length numbers) place → (leb place v && has_number numbers k v) ≡ false
  walk_start place v last =
      elim (cases_lt v place) [
        | inl below ↦ and_left (leb place v) (has_number numbers k v) (lt-leb place v below)
        | inr above ↦ and_right (leb place v) (has_number numbers k v) (elim (cases_lt v (length numbers)) [
          | inl within ↦ last.behind v above within
          | inr past ↦ has_past numbers k v past
        ])
      ]

  -- Going back to the previous place adds exactly one instance with the number.
  pub walk_more : (at place v : ℕ) → has_number numbers k at ≡ true → IsBehindLast numbers k at place →
      (leb place v && has_number numbers k v) ≡ ((leb (at + 1) v && has_number numbers k v) || eqb v at)
  walk_more at place v is before =
      let has : Bool = has_number numbers k v in
      let within = before.within in
      elim (cases_order v at) [
        | inl same ↦
            ap₂ (λ p q. p && q) (le-leb place v (omega (arith, within, same))) (ap (has_number numbers k) same ∙ is)
            ∙ sym (or_right (leb (at + 1) v && has) (eqb v at) (eq-eqb v at same))
        | inr (inl under) ↦
            (elim (cases_lt v place) [
              | inl below ↦ and_left (leb place v) has (lt-leb place v below)
              | inr above ↦ and_right (leb place v) has (before.behind v above under)
            ])
            ∙ sym (or_from (leb (at + 1) v && has) (eqb v at) (and_left (leb (at + 1) v) has (lt-leb (at + 1) v (omega (arith, under))))
            (ne_eqb v at (λ e. omega (arith, under, e))))
        | inr (inr over) ↦
            ap (λ b. b && has) (le-leb place v (omega (arith, within, over)) ∙ sym (le-leb (at + 1) v (omega (arith, over))))
            ∙ sym (or_none (leb (at + 1) v && has)) ∙ ap (λ b. (leb (at + 1) v && has) || b) (sym (ne_eqb v at (λ e. omega (arith, over, e))))
      ]
    where
      or_none : (b : Bool) → (b || false) ≡ b
      or_none true = refl
      or_none false = refl

  -- From place 0 on, each instance counts.
  pub walk_end : (place v : ℕ) → place ≡ 0 → (leb place v && has_number numbers k v) ≡ has_number numbers k v
  walk_end place v first = ap (λ b. b && has_number numbers k v) (le-leb place v (omega (arith, first)))

  -- One step: the plane gains the pair of the next instance with the number.
  pub each_step : (first old new : Relation) (at held place u v w : ℕ) → new.pairs ≡ insert old.pairs (at, u) → has_number numbers k at ≡ true →
      held ≡ at + 1 → IsBehindLast numbers k at place →
      contains old.pairs (v, w) ≡ (contains first.pairs (v, w) || (eqb w u && (leb held v && has_number numbers k v))) →
      contains new.pairs (v, w) ≡ (contains first.pairs (v, w) || (eqb w u && (leb place v && has_number numbers k v)))
  each_step first old new at held place u v w inserted is from before so_far_held =
      let so_far : contains old.pairs (v, w) ≡ (contains first.pairs (v, w) || (eqb w u && (leb (at + 1) v && has_number numbers k v))) =
      subst (λ n. contains old.pairs (v, w) ≡ (contains first.pairs (v, w) || (eqb w u && (leb n v && has_number numbers k v)))) from so_far_held in
      let had : Bool = contains first.pairs (v, w) in
      let some : Bool = leb (at + 1) v && has_number numbers k v in
      ap (λ s. contains s (v, w)) inserted ∙ contains-insert pair_cmp_total old.pairs (at, u) (v, w)
      ∙ ap₂ (λ p q. p || q) (same_pair v w at u) so_far
      ∙ one_more had (eqb w u) some (eqb v at)
      ∙ ap (λ b. had || (eqb w u && b)) (sym (walk_more at place v is before))

-- One step: after the dependencies of instance u are related, those of all instances up to u are.
pub instance_step : (w u : ℕ) (depends here : Bool) → (w ≡ u → here ≡ depends) → ((ltb w u && depends) || (eqb w u && here)) ≡ (ltb w (u + 1) && depends)
instance_step w u depends here same =
    elim (cases_eq w u) [
      | inl is ↦ ap₂ (λ p q. (p && depends) || (q && here)) (le-ltb w u (omega arith)) (eq-eqb w u is) ∙ same is
          ∙ ap (λ p. p && depends) (sym (lt-ltb w (u + 1) (omega arith)))
      | inr other ↦ elim (cases_lt w u) [
        | inl below ↦ ap₂ (λ p q. (p && depends) || (q && here)) (lt-ltb w u below) (ne_eqb w u other) ∙ or-none depends
            ∙ ap (λ p. p && depends) (sym (lt-ltb w (u + 1) (omega arith)))
        | inr above ↦ ap₂ (λ p q. (p && depends) || (q && here)) (le-ltb w u above) (ne_eqb w u other)
            ∙ ap (λ p. p && depends) (sym (le-ltb w (u + 1) (omega (arith, above, other))))
      ]
    ]
  where
    or-none : (b : Bool) → (b || false) ≡ b
    or-none true = refl
    or-none false = refl

-- Each instance that depends on another is below the end.
pub below_all : (d : Document) (n u v : ℕ) → n ≡ length d.instances → (ltb u n && depends_on d u v) ≡ depends_on d u v
below_all d n u v e =
    elim (cases_lt u n) [
      | inl below ↦ ap (λ b. b && depends_on d u v) (lt-ltb u n below)
      | inr past ↦
          let none : depends_on d u v ≡ false = false_from_ne_true (depends_on d u v) (λ yes.
          let within = depends_within d u v ((depends_told d u v).0 yes) in omega (arith, within, past, e)) in
          ap (λ b. b && depends_on d u v) (le-ltb u n past) ∙ sym none
    ]

-- ---- numbers

-- Tests that agree at each element agree on the list.
pub any_alike : (p q : ℕ → Bool) → ((x : ℕ) → p x ≡ q x) → (xs : List ℕ) → list_any p xs ≡ list_any q xs
any_alike p q same [] = refl
any_alike p q same (x ∷ xs) = ap₂ (λ a b. a || b) (same x) (any_alike p q same xs)

-- No element passes a test that always fails.
pub any_none : (xs : List ℕ) → list_any (λ x. false) xs ≡ false
any_none [] = refl
any_none (x ∷ xs) = any_none xs

-- Equality of numbers is symmetric.
eqb_turned : (a b : ℕ) → eqb a b ≡ eqb b a
eqb_turned a b = elim (cases_eq a b) [
  | inl same ↦ eq-eqb a b same ∙ sym (eq-eqb b a (sym same))
  | inr other ↦ ne_eqb a b other ∙ sym (ne_eqb b a (λ e. other (sym e)))
]

-- An instance depends on the instances whose number is among its numbers.
pub numbers_told : (d : Document) (table : NumberTable) → IsNumbering d table → (u : ℕ) (numbers : List ℕ) →
    slice_get table.dependencies u ≡ Some numbers → (v : ℕ) → list_any (λ k. has_number table.configs k v) numbers ≡ depends_on d u v
numbers_told d table numbering u numbers at v =
    elim (slice_get table.configs v) as (λ o. slice_get table.configs v ≡ o → list_any (λ k. option_map_or (λ n. eqb n k) o false) numbers ≡ depends_on d u v) [
      | Some number ↦ λ is.
          any_alike (λ k. eqb number k) (λ k. eqb k number) (λ k. eqb_turned number k) numbers
          ∙ same_from_decides {P = DependsOn d u v} (list_any (λ k. eqb k number) numbers) (depends_on d u v)
          (numbering.related u v numbers number at is) (depends_told d u v)
      | None ↦ λ is.
          any_none numbers
          ∙ sym (false_from_ne_true (depends_on d u v) (λ yes.
          let there = target_within d u v ((depends_told d u v).0 yes) in
          let long = numbering.configs in
          no_place table.configs v is (omega (arith, there, long))))
    ] refl
  where
    no_place : (xs : List ℕ) (i : ℕ) → slice_get xs i ≡ None → i < length xs → ⊥
    no_place xs i none h = let some = slice_get-get_or xs i 0 h in cc
