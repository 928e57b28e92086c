-- Lemmas about specs/Chains.antt.
use Rattle.std.proofs.Common.{◌≡◌, ◌⊎◌, ℕ, zero, suc, ◌+◌, ◌-◌, ◌<◌, List, [], ◌∷◌, ◌++◌, length, get_or, Option, Some, None, refl, sym, ap, subst, ◌∙◌, inl, inr, arith}
use Rattle.std.specs.Prelude.{Contains}
use Rattle.std.specs.List.{slice_get}
use Rattle.std.proofs.lemmas.Option.{slice_get_within}
use Rattle.tfs_state.specs.Document.{Document}
use Rattle.tfs_state.specs.Dependency.{DependsOn}
use Rattle.tfs_state.proofs.ListLemmas.{slice_get_longer, slice_get_last}
use Rattle.tfs_plan.specs.Chains.{IsPath, LeadsBack, Follows, AreChains}
use Rattle.tfs_plan.specs.declared.chain.Step.{Step}

-- An element of a list with one more element is an element of the list, or that element.
pub snoc_at : {A : Type 0} (xs : List A) (y : A) (k : ℕ) (x : A) → slice_get (xs ++ y ∷ []) k ≡ Some x
    → (slice_get xs k ≡ Some x) ⊎ ((k ≡ length xs) × (y ≡ x))
snoc_at [] y zero x e = inr (refl, cc)
snoc_at [] y (suc k) x e = cc
snoc_at (z ∷ xs) y zero x e = inl e
snoc_at (z ∷ xs) y (suc k) x e = elim (snoc_at xs y k x e) [
  | inl old ↦ inl old
  | inr new ↦ inr (ap (λ n. suc n) new.0, new.1)
]

-- An index below the length has an element.
pub element_at : {A : Type 0} (xs : List A) (k : ℕ) → k < length xs → (x : A) × (slice_get xs k ≡ Some x)
element_at [] k low = absurd (omega arith)
element_at (x ∷ xs) zero low = (x, refl)
element_at (x ∷ xs) (suc k) low = element_at xs k (omega arith)

-- There are no steps at first.
pub no_steps : (d : Document) (starts : List ℕ) → AreChains d starts []
no_steps d starts = record { within = λ k s e. cc; follows = λ k s e. cc }

module _ (d : Document) (starts : List ℕ) (steps : List Step) (new : Step) where
  -- A step of earlier ones still follows after one more.
  still : (k u : ℕ) (before : Option ℕ) → k < length steps + 1 → Follows d starts steps k u before → Follows d starts (steps ++ new ∷ []) k u before
  still k u None low is = is
  still k u (Some j) low is = (
    is.0,
    λ t e. elim (snoc_at steps new j t e) [
      | inl old ↦ is.1 t old
      | inr last ↦ absurd (let h = is.0 in let same = last.0 in omega arith)
    ],
  )

  -- A step of an instance of the state that follows may be appended.
  pub chains_more : AreChains d starts steps → new.instance < length d.instances → Follows d starts steps (length steps) new.instance new.before
      → AreChains d starts (steps ++ new ∷ [])
  chains_more are low is = record {
    within = λ k s e. elim (snoc_at steps new k s e) [
      | inl old ↦ are.within k s old
      | inr last ↦ subst (λ (t : Step). t.instance < length d.instances) last.1 low
    ];
    follows = λ k s e. elim (snoc_at steps new k s e) [
      | inl old ↦ still k s.instance s.before (let low = slice_get_within steps k s old in omega arith) (are.follows k s old)
      | inr last ↦
          let here : Follows d starts (steps ++ new ∷ []) (length steps) new.instance new.before = still (length steps) new.instance new.before (omega arith) is in
          let there = subst (λ n. Follows d starts (steps ++ new ∷ []) n new.instance new.before) (sym last.0) here in
          subst (λ (t : Step). Follows d starts (steps ++ new ∷ []) k t.instance t.before) last.1 there
    ];
  }

-- ---- paths

-- The elements of a list keep their places before another one.
get_or_front : (xs : List ℕ) (y k : ℕ) → k < length xs → get_or (xs ++ y ∷ []) k 0 ≡ get_or xs k 0
get_or_front [] y k low = absurd (omega arith)
get_or_front (x ∷ xs) y zero low = refl
get_or_front (x ∷ xs) y (suc k) low = get_or_front xs y k (omega arith)

-- The appended element is behind the others.
get_or_last : (xs : List ℕ) (y k : ℕ) → k ≡ length xs → get_or (xs ++ y ∷ []) k 0 ≡ y
get_or_last [] y zero same = refl
get_or_last [] y (suc k) same = cc
get_or_last (x ∷ xs) y zero same = cc
get_or_last (x ∷ xs) y (suc k) same = get_or_last xs y k (omega arith)

length_more : (xs : List ℕ) (y : ℕ) → length (xs ++ y ∷ []) ≡ length xs + 1
length_more [] y = refl
length_more (x ∷ xs) y = ap (λ n. suc n) (length_more xs y) ∙ (let same : suc (length xs + 1) ≡ suc (length xs) + 1 = omega arith in same)

-- An instance alone is a path.
pub path_alone : (d : Document) (u : ℕ) → IsPath d u (u ∷ [])
path_alone d u = record { some = omega arith; begins = refl; depends = λ k low. absurd (omega arith) }

-- A path goes on to an instance that its last one depends on.
pub path_more : (d : Document) (u : ℕ) (xs : List ℕ) (v w : ℕ) → IsPath d u (xs ++ v ∷ []) → DependsOn d v w → IsPath d u ((xs ++ v ∷ []) ++ w ∷ [])
path_more d u xs v w path depends =
    let whole : List ℕ = xs ++ v ∷ [] in
    let long = length_more whole w in
    let short = length_more xs v in record {
      some = omega arith;
      begins = get_or_front whole w 0 path.some ∙ path.begins;
      depends = λ k low. elim (split k (let h : k + 1 < length whole + 1 = subst (λ n. k + 1 < n) long low in h)) [
        | inl inside ↦
            let first = get_or_front whole w k (omega arith) in
            let second = get_or_front whole w (k + 1) inside in
            subst (λ a. DependsOn d a (get_or (whole ++ w ∷ []) (k + 1) 0)) (sym first)
            (subst (λ b. DependsOn d (get_or whole k 0) b) (sym second) (path.depends k inside))
        | inr last ↦
            let first : get_or (whole ++ w ∷ []) k 0 ≡ v = get_or_front whole w k (omega arith) ∙ get_or_last xs v k (omega arith) in
            let second : get_or (whole ++ w ∷ []) (k + 1) 0 ≡ w = get_or_last whole w (k + 1) last in
            subst (λ a. DependsOn d a (get_or (whole ++ w ∷ []) (k + 1) 0)) (sym first) (subst (λ b. DependsOn d v b) (sym second) depends)
      ];
    }
  where
    split : (k : ℕ) → k + 1 < length (xs ++ v ∷ []) + 1 → (k + 1 < length (xs ++ v ∷ [])) ⊎ (k + 1 ≡ length (xs ++ v ∷ []))
    split k low = grind arith

-- A path whose last instance is changed leads back.
pub path_ends : (d : Document) (starts : List ℕ) (u : ℕ) (xs : List ℕ) (v : ℕ) → IsPath d u (xs ++ v ∷ []) → Contains starts v
    → LeadsBack d starts u (xs ++ v ∷ [])
path_ends d starts u xs v path changed = record {
  path = path;
  changed =
      let last : get_or (xs ++ v ∷ []) (length (xs ++ v ∷ []) - 1) 0 ≡ v =
      get_or_last xs v (length (xs ++ v ∷ []) - 1) (let long = length_more xs v in omega arith) in
      subst (λ w. Contains starts w) (sym last) changed;
}
