-- Lemmas about what the instances of a bucket reach that a text names.
use Rattle.std.proofs.Common.{◌≡◌, ℕ, ◌+◌, ◌<◌, Bool, true, false, ◌&&◌, ◌||◌, not, List, []}
use Rattle.std.proofs.Common.{◌∷◌, length}
use Rattle.std.proofs.Common.{eqb, leb}
use Rattle.std.proofs.Common.{refl, sym, ap, ◌∙◌, inl, inr, arith}
use Rattle.std.specs.FinSet.{contains}
use Rattle.std.specs.List.{list_any, range_with_len}
use Rattle.std.proofs.lemmas.Bool.{cases_eq, eq-eqb, ne_eqb, and_left, and_right}
use Rattle.std.proofs.lemmas.Bool.Decides.{same_from_decides}
use Rattle.tfs_planes.specs.Relation.{Relation}
use Rattle.tfs_planes.specs.Row.{NumberSet}
use Rattle.tfs_planes.proofs.BitLemmas.{any_in_range}
use Rattle.tfs_state.specs.Document.{Document}
use Rattle.tfs_index.specs.Reach.{Reaches, reaches}
use Rattle.tfs_index.specs.Impact.{names, is_reached_from}
use Rattle.tfs_index.specs.Index.{HasReached}
use Rattle.tfs_index.specs.Links.{has_number, IsBehindLast}
use Rattle.tfs_index.proofs.IndexLemmas.{any_alike, any_none, walk_more}
use Rattle.tfs_index.proofs.ReachLemmas.{reach_told}

-- ---- tests over lists

-- The operands of two disjunctions can be regrouped.
or_together : (a b c d : Bool) → ((a || b) || (c || d)) ≡ ((a || c) || (b || d))
or_together true b c d = refl
or_together false true true d = refl
or_together false true false d = refl
or_together false false true d = refl
or_together false false false d = refl

-- Conjunction distributes over disjunction.
and_over : (a b c : Bool) → ((a || b) && c) ≡ ((a && c) || (b && c))
and_over true true true = refl
and_over true true false = refl
and_over true false true = refl
and_over true false false = refl
and_over false b c = refl

-- Disjunction is associative.
pub or_grouped : (a b c : Bool) → ((a || b) || c) ≡ (a || (b || c))
or_grouped true b c = refl
or_grouped false b c = refl

-- A disjunction with false is its other operand.
pub or_none : (a : Bool) → (a || false) ≡ a
or_none true = refl
or_none false = refl

-- Some element passes one of two tests if and only if some element passes the first or some passes
-- the second.
any_or : (p q : ℕ → Bool) (xs : List ℕ) → list_any (λ x. p x || q x) xs ≡ (list_any p xs || list_any q xs)
any_or p q [] = refl
any_or p q (x ∷ xs) = ap (λ b. (p x || q x) || b) (any_or p q xs) ∙ or_together (p x) (q x) (list_any p xs) (list_any q xs)

-- A condition on every test of a list can be checked once.
any_where : (b : Bool) (p : ℕ → Bool) (xs : List ℕ) → list_any (λ x. b && p x) xs ≡ (b && list_any p xs)
any_where true p xs = refl
any_where false p xs = any_none xs

-- A test at one number of a range holds for some element if it holds for that number.
any_one : (r : ℕ → Bool) (n at : ℕ) → at < n → list_any (λ v. eqb v at && r v) (range_with_len 0 n) ≡ r at
any_one r n at h =
    any_alike (λ v. eqb v at && r v) (λ v. r at && eqb v at) same (range_with_len 0 n)
    ∙ any_where (r at) (λ v. eqb v at) (range_with_len 0 n)
    ∙ ap (λ b. r at && b) (any_in_range 0 n at (omega arith) (omega (arith, h)))
    ∙ and_true (r at)
  where
    and_true : (b : Bool) → (b && true) ≡ b
    and_true true = refl
    and_true false = refl

    same : (v : ℕ) → (eqb v at && r v) ≡ (r at && eqb v at)
    same v =
        elim (cases_eq v at) [
          | inl e ↦ ap (λ b. b && r v) (eq-eqb v at e) ∙ ap r e ∙ sym (and_true (r at)) ∙ ap (λ b. r at && b) (sym (eq-eqb v at e))
          | inr other ↦ ap (λ b. b && r v) (ne_eqb v at other) ∙ sym (and_right (r at) (eqb v at) (ne_eqb v at other))
        ]

-- ---- what is reached

-- A pair is in the plane of an index if its first instance reaches the second.
pub reached_bit : (d : Document) (plane : Relation) → HasReached d plane → (v u : ℕ) → contains plane.pairs (v, u) ≡ reaches d v u
reached_bit d plane has v u =
    same_from_decides {P = Reaches d v u} (contains plane.pairs (v, u)) (reaches d v u) (has.walks v u) (reach_told d v u)

module _ (d : Document) (text : List ℕ) where
  -- If no instance passes, no instance is reached.
  pub from_none : (passes : ℕ → Bool) (u : ℕ) → ((v : ℕ) → passes v ≡ false) → is_reached_from d text passes u ≡ false
  unfolding is_reached_from
  from_none passes u none =
      any_alike (λ v. passes v && (names d text v && reaches d v u)) (λ v. false)
      (λ v. and_left (passes v) (names d text v && reaches d v u) (none v)) (range_with_len 0 (length d.instances))
      ∙ any_none (range_with_len 0 (length d.instances))

  -- Tests that agree at each instance reach the same instances.
  pub from_alike : (p q : ℕ → Bool) (u : ℕ) → ((v : ℕ) → p v ≡ q v) → is_reached_from d text p u ≡ is_reached_from d text q u
  unfolding is_reached_from
  from_alike p q u same =
      any_alike (λ v. p v && (names d text v && reaches d v u)) (λ v. q v && (names d text v && reaches d v u))
      (λ v. ap (λ b. b && (names d text v && reaches d v u)) (same v)) (range_with_len 0 (length d.instances))

  -- If one more instance passes, what it reaches is reached as well if the text names it.
  pub from_more : (passes more : ℕ → Bool) (at u : ℕ) → at < length d.instances → ((v : ℕ) → more v ≡ (passes v || eqb v at)) →
      is_reached_from d text more u ≡ (is_reached_from d text passes u || (names d text at && reaches d at u))
  unfolding is_reached_from
  from_more passes more at u h told =
      let r : ℕ → Bool = λ v. names d text v && reaches d v u in
      any_alike (λ v. more v && r v) (λ v. (passes v && r v) || (eqb v at && r v))
      (λ v. ap (λ b. b && r v) (told v) ∙ and_over (passes v) (eqb v at) (r v)) (range_with_len 0 (length d.instances))
      ∙ any_or (λ v. passes v && r v) (λ v. eqb v at && r v) (range_with_len 0 (length d.instances))
      ∙ ap (λ b. list_any (λ v. passes v && r v) (range_with_len 0 (length d.instances)) || b) (any_one r (length d.instances) at h)

module _ (d : Document) (text numbers : List ℕ) (k : ℕ) where
  -- The instances of a bucket from a place on.
  abbrev pub from_place : ℕ → ℕ → Bool
  from_place place v = leb place v && has_number numbers k v

  -- One step: the next instance of the bucket adds what it reaches, if it is named.
  pub bucket_step : (first old new : NumberSet) (at held place u : ℕ) → at < length d.instances → held ≡ at + 1 → has_number numbers k at ≡ true →
      IsBehindLast numbers k at place → contains old.members u ≡ (contains first.members u || is_reached_from d text (from_place held) u) →
      contains new.members u ≡ (contains old.members u || (names d text at && reaches d at u)) →
      contains new.members u ≡ (contains first.members u || is_reached_from d text (from_place place) u)
  bucket_step first old new at held place u h from is before so_far step =
      step ∙ ap (λ b. b || (names d text at && reaches d at u)) so_far
      ∙ or_grouped (contains first.members u) (is_reached_from d text (from_place held) u) (names d text at && reaches d at u)
      ∙ ap (λ b. contains first.members u || b) (sym (from_more d text (from_place held) (from_place place) at u h
      (λ v. walk_more numbers k at place v is before ∙ ap (λ n. (leb n v && has_number numbers k v) || eqb v at) (sym from))))

-- If the instance is named, the row gains what the instance reaches.
pub step_named : (d : Document) (plane : Relation) → HasReached d plane → (text : List ℕ) (old new : NumberSet) (at u : ℕ) → names d text at ≡ true →
    contains new.members u ≡ (contains old.members u || contains plane.pairs (at, u)) →
    contains new.members u ≡ (contains old.members u || (names d text at && reaches d at u))
step_named d plane has text old new at u is united =
    united ∙ ap (λ b. contains old.members u || b) (reached_bit d plane has at u ∙ ap (λ b. b && reaches d at u) (sym is))

-- If the instance is not named, the row is unchanged.
pub step_other : (d : Document) (text : List ℕ) (old new : NumberSet) (at u : ℕ) → names d text at ≡ false → new ≡ old →
    contains new.members u ≡ (contains old.members u || (names d text at && reaches d at u))
step_other d text old new at u not same =
    ap (λ (s : NumberSet). contains s.members u) same
    ∙ sym (ap (λ b. contains old.members u || b) (and_left (names d text at) (reaches d at u) not) ∙ or_none (contains old.members u))
