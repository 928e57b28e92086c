-- Lemmas about specs/Links.antt.
use Rattle.std.proofs.Common.{◌≡◌, ℕ, suc, zero, ◌+◌, ◌-◌, ◌<◌, ◌≤◌, true, false, cond, List, [], ◌∷◌, ◌++◌, length, get_or, eqb, Option, Some, None}
use Rattle.std.proofs.Common.{refl, sym, ap, subst, ◌∙◌, inl, inr, arith}
use Rattle.std.specs.List.{slice_get}
use Rattle.std.specs.Option.{option_map_or}
use Rattle.std.proofs.lemmas.Bool.{cases_eq, cases_lt, eq-eqb, ne_eqb, eqb-true, cond-true, cond-false, false≢true}
use Rattle.std.proofs.Math.ListN.{replicate}
use Rattle.std.proofs.lemmas.List.{get_or-replicate, get_or_past, length-replicate}
use Rattle.std.proofs.lemmas.Option.{slice_get_past, slice_get_within}
use Rattle.tfs_index.specs.Links.{has_number, IsBehindLast, AreLinks}

module _ (numbers : List ℕ) (k : ℕ) where
  -- No number at or beyond the count of instances has a number.
  pub has_past : (v : ℕ) → length numbers ≤ v → has_number numbers k v ≡ false
  has_past v past = ap (λ (o : Option ℕ). option_map_or (λ n. eqb n k) o false) (slice_get_past numbers v past)

  -- An instance has the number that the list has at its index.
  pub has_told : (v number : ℕ) → slice_get numbers v ≡ Some number → has_number numbers k v ≡ eqb number k
  has_told v number at = ap (λ (o : Option ℕ). option_map_or (λ n. eqb n k) o false) at

  -- If an instance has number k, the list has k at its index.
  pub number_told : (v : ℕ) → has_number numbers k v ≡ true → slice_get numbers v ≡ Some k
  number_told v is =
      elim (slice_get numbers v) as (λ o. option_map_or (λ n. eqb n k) o false ≡ true → o ≡ Some k) [
        | Some number ↦ λ e. ap Some (eqb-true number k e)
        | None ↦ λ e. absurd (false≢true e)
      ] is

  -- Below 0 there is no instance, so the place is 0.
  pub none_behind : (place : ℕ) → place ≡ 0 → IsBehindLast numbers k 0 place
  none_behind place e = record {
    within = omega arith;
    here = λ v f. absurd (omega arith);
    behind = λ v h i. absurd (omega arith);
  }

  -- If instance v has the number, the place for the end v + 1 is v + 1.
  behind_this : (v place : ℕ) → has_number numbers k v ≡ true → place ≡ v + 1 → IsBehindLast numbers k (v + 1) place
  behind_this v place is e = record {
    within = omega arith;
    here = λ x f. let same : v ≡ x = omega arith in subst (λ y. has_number numbers k y ≡ true) same is;
    behind = λ x h i. absurd (omega arith);
  }

  -- If instance v has another number, the place is unchanged.
  behind_other : (v old place : ℕ) → has_number numbers k v ≡ false → place ≡ old → IsBehindLast numbers k v old → IsBehindLast numbers k (v + 1) place
  behind_other v old place not e before =
      let within = before.within in
      record {
        within = omega arith;
        here = λ x f. before.here x (omega arith);
        behind = λ x h i. elim (cases_lt x v) [
          | inl below ↦ before.behind x (omega arith) below
          | inr above ↦ let same : v ≡ x = omega arith in subst (λ y. has_number numbers k y ≡ false) same not
        ];
      }

module _ (numbers : List ℕ) (v number : ℕ) (at : slice_get numbers v ≡ Some number) where
  -- The places of the last instances, after one more instance.
  pub lasts_more : (old new : List ℕ) → ((k : ℕ) → get_or new k 0 ≡ cond (eqb k number) (v + 1) (get_or old k 0)) →
      ((k : ℕ) → IsBehindLast numbers k v (get_or old k 0)) → (k : ℕ) → IsBehindLast numbers k (v + 1) (get_or new k 0)
  lasts_more old new put so_far k =
      elim (cases_eq k number) [
        | inl same ↦ behind_this numbers k v (get_or new k 0) (has_told numbers k v number at ∙ eq-eqb number k (sym same))
            (put k ∙ cond-true (eqb k number) (v + 1) (get_or old k 0) (eq-eqb k number same))
        | inr other ↦ behind_other numbers k v (get_or old k 0) (get_or new k 0) (has_told numbers k v number at ∙ ne_eqb number k (λ e. other (sym e)))
            (put k ∙ cond-false (eqb k number) (v + 1) (get_or old k 0) (ne_eqb k number other)) (so_far k)
      ]

  -- The places of the last earlier instances, after one more instance.
  pub befores_more : (old new : List ℕ) (before : ℕ) → length old ≡ v → new ≡ old ++ before ∷ [] → IsBehindLast numbers number v before →
      ((w n : ℕ) → w < v → slice_get numbers w ≡ Some n → IsBehindLast numbers n w (get_or old w 0)) →
      (w n : ℕ) → w < v + 1 → slice_get numbers w ≡ Some n → IsBehindLast numbers n w (get_or new w 0)
  befores_more old new before long pushed this so_far w n h is =
      elim (cases_lt w v) [
        | inl below ↦
            let kept : get_or new w 0 ≡ get_or old w 0 = ap (λ xs. get_or xs w 0) pushed ∙ get_or_front old before w (omega arith) in
            subst (IsBehindLast numbers n w) (sym kept) (so_far w n below is)
        | inr above ↦
            let same : v ≡ w = omega arith in
            let last : get_or new w 0 ≡ before = ap (λ xs. get_or xs w 0) pushed ∙ get_or_last old before w (omega arith) in
            let number_is : number ≡ n = let f : slice_get numbers v ≡ Some n = ap (slice_get numbers) same ∙ is in cc in
            let at_number : IsBehindLast numbers n v before = subst (λ m. IsBehindLast numbers m v before) number_is this in
            subst (IsBehindLast numbers n w) (sym last) (subst (λ x. IsBehindLast numbers n x before) same at_number)
      ]
    where
      get_or_front : (xs : List ℕ) (y i : ℕ) → i < length xs → get_or (xs ++ y ∷ []) i 0 ≡ get_or xs i 0
      get_or_front [] y i h = absurd (omega arith)
      get_or_front (x ∷ xs) y zero h = refl
      get_or_front (x ∷ xs) y (suc i) h = get_or_front xs y i (omega arith)

      get_or_last : (xs : List ℕ) (y i : ℕ) → length xs ≡ i → get_or (xs ++ y ∷ []) i 0 ≡ y
      get_or_last [] y zero h = refl
      get_or_last [] y (suc i) h = absurd (omega arith)
      get_or_last (x ∷ xs) y zero h = absurd (omega arith)
      get_or_last (x ∷ xs) y (suc i) h = get_or_last xs y i (omega arith)

-- The link of the instance before a place is the place of the last earlier instance with its
-- number.
pub before_place : (numbers : List ℕ) (k place next : ℕ) → 0 < place → ((v : ℕ) → place ≡ v + 1 → has_number numbers k v ≡ true) →
    ((number : ℕ) → slice_get numbers (place - 1) ≡ Some number → IsBehindLast numbers number (place - 1) next) → IsBehindLast numbers k (place - 1) next
before_place numbers k place next some here before = before k (number_told numbers k (place - 1) (here (place - 1) (omega (arith, some))))

-- A list of zeros has 0 at every index, also beyond its end.
pub zero_at : (n k : ℕ) → let zeros : List ℕ = replicate n 0 in get_or zeros k 0 ≡ 0
zero_at n k =
    let zeros : List ℕ = replicate n 0 in
    elim (cases_lt k n) [
      | inl below ↦ get_or-replicate {A = ℕ} n k 0 0 below
      | inr above ↦ let long : length zeros ≡ n = length-replicate {A = ℕ} n 0 in get_or_past zeros k 0 (omega (arith, above, long))
    ]

-- At the end of the loop, the lists are the links of the numbers.
pub links_made : (numbers lasts befores : List ℕ) (v : ℕ) → v ≡ length numbers → length befores ≡ v →
    ((k : ℕ) → IsBehindLast numbers k v (get_or lasts k 0)) →
    ((w n : ℕ) → w < v → slice_get numbers w ≡ Some n → IsBehindLast numbers n w (get_or befores w 0)) → AreLinks numbers lasts befores
links_made numbers lasts befores v end long last_of before_of = record {
  long = long ∙ end;
  last = λ k. subst (λ m. IsBehindLast numbers k m (get_or lasts k 0)) end (last_of k);
  before = λ w n is. let within = slice_get_within numbers w n is in before_of w n (omega (arith, within, end)) is;
}
