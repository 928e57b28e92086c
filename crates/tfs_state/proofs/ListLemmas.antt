-- Lemmas about lists: elements at an index, two lists whose elements are related pairwise, and
-- lists whose elements are read one after another.
use Rattle.std.proofs.Common.{option_map, None, ◌≡◌, ℕ, zero, suc, ◌+◌, ◌<◌, ◌≤◌, List, [], ◌∷◌, ◌++◌, length, map, take, drop, get_or, Some, Result, Ok}
use Rattle.std.proofs.Common.{Err, refl, sym, ap, subst, ◌∙◌, arith, add-zero, append_assoc}
use Rattle.std.specs.List.{AllZip, slice_get}
use Rattle.std.proofs.lemmas.Option.{slice_get-map}
use Rattle.std.proofs.lemmas.List.{take_more, map-append, length-take-le, take-append-drop}
use Rattle.std.proofs.Math.ListN.{length-map}
use Rattle.tfs_state.specs.Resources.{result_and_then, result_map, read_each}

-- ---- elements at an index

-- Appending to a list keeps the elements at their indexes.
pub slice_get_longer : {A : Type 0} (xs ys : List A) (n : ℕ) (x : A) → slice_get xs n ≡ Some x → slice_get (xs ++ ys) n ≡ Some x
slice_get_longer [] ys n x e = cc
slice_get_longer (y ∷ xs) ys zero x e = e
slice_get_longer (y ∷ xs) ys (suc n) x e = slice_get_longer xs ys n x e

-- An appended element has the old length as its index.
pub slice_get_last : {A : Type 0} (xs : List A) (y : A) → slice_get (xs ++ y ∷ []) (length xs) ≡ Some y
slice_get_last [] y = refl
slice_get_last (x ∷ xs) y = slice_get_last xs y

-- Each element of a mapped list is the image of the element at its index.
pub map_at : {A B : Type 0} (f : A → B) (xs : List A) (n : ℕ) (y : B) → slice_get (map f xs) n ≡ Some y → (x : A) × (slice_get xs n ≡ Some x) × (f x ≡ y)
map_at {A} {B} f xs n y e =
    elim (slice_get xs n) as (λ o. slice_get xs n ≡ o → option_map f o ≡ Some y → (x : A) × (slice_get xs n ≡ Some x) × (f x ≡ y)) [
      | Some x ↦ λ is g. (x, is, cc)
      | None ↦ λ is g. cc
    ] refl (sym (slice_get-map f xs n) ∙ e)

-- ---- two lists whose elements are related pairwise

module _ {A B : Type 0} where
  -- Appending related lists to related lists gives related lists.
  pub zip_append : (R : A → B → Type 0) (xs xs' : List A) (ys ys' : List B) → AllZip R xs ys → AllZip R xs' ys' → AllZip R (xs ++ xs') (ys ++ ys')
  zip_append R [] xs' [] ys' p q = q
  zip_append R [] xs' (y ∷ ys) ys' p q = absurd p
  zip_append R (x ∷ xs) xs' [] ys' p q = absurd p
  zip_append R (x ∷ xs) xs' (y ∷ ys) ys' p q = (p.0, zip_append R xs xs' ys ys' p.1 q)

  -- Appending related elements to related lists gives related lists.
  pub zip_push : (R : A → B → Type 0) (xs : List A) (ys : List B) (x : A) (y : B) → AllZip R xs ys → R x y → AllZip R (xs ++ x ∷ []) (ys ++ y ∷ [])
  zip_push R xs ys x y p r = zip_append R xs (x ∷ []) ys (y ∷ []) p (r, tt)

  -- Lists related by a relation are related by every weaker relation.
  pub zip_weaken : (R S : A → B → Type 0) → ((x : A) (y : B) → R x y → S x y) → (xs : List A) (ys : List B) → AllZip R xs ys → AllZip S xs ys
  zip_weaken R S f [] [] p = tt
  zip_weaken R S f [] (y ∷ ys) p = p
  zip_weaken R S f (x ∷ xs) [] p = p
  zip_weaken R S f (x ∷ xs) (y ∷ ys) p = (f x y p.0, zip_weaken R S f xs ys p.1)

  -- Related lists have equal lengths.
  pub zip_length : (R : A → B → Type 0) (xs : List A) (ys : List B) → AllZip R xs ys → length xs ≡ length ys
  zip_length R [] [] p = refl
  zip_length R [] (y ∷ ys) p = absurd p
  zip_length R (x ∷ xs) [] p = absurd p
  zip_length R (x ∷ xs) (y ∷ ys) p = ap (λ n. suc n) (zip_length R xs ys p.1)

  -- Each element of the first list is related to the element of the second list at its index.
  pub zip_at : (R : A → B → Type 0) (xs : List A) (ys : List B) (n : ℕ) (x : A) → AllZip R xs ys → slice_get xs n ≡ Some x
      → (y : B) × (slice_get ys n ≡ Some y) × R x y
  zip_at R [] [] n x p e = cc
  zip_at R [] (y ∷ ys) n x p e = absurd p
  zip_at R (a ∷ xs) [] n x p e = absurd p
  zip_at R (a ∷ xs) (y ∷ ys) zero x p e = (y, refl, subst (λ z. R z y) (let same : a ≡ x = cc in same) p.0)
  zip_at R (a ∷ xs) (y ∷ ys) (suc n) x p e = zip_at R xs ys n x p.1 e

  -- If the elements are related to the images of the second list's elements, the lists are related
  -- after mapping.
  pub zip_map : {C : Type 0} (R : A → C → Type 0) (f : B → C) (xs : List A) (ys : List B) → AllZip (λ x y. R x (f y)) xs ys → AllZip R xs (map f ys)
  zip_map R f [] [] p = tt
  zip_map R f [] (y ∷ ys) p = p
  zip_map R f (x ∷ xs) [] p = p
  zip_map R f (x ∷ xs) (y ∷ ys) p = (p.0, zip_map R f xs ys p.1)

  -- Prefixes of one length of related lists are related.
  pub zip_take : (R : A → B → Type 0) (n : ℕ) (xs : List A) (ys : List B) → AllZip R xs ys → AllZip R (take n xs) (take n ys)
  zip_take R zero xs ys p = tt
  zip_take R (suc n) [] [] p = tt
  zip_take R (suc n) [] (y ∷ ys) p = absurd p
  zip_take R (suc n) (x ∷ xs) [] p = absurd p
  zip_take R (suc n) (x ∷ xs) (y ∷ ys) p = (p.0, zip_take R n xs ys p.1)

-- ---- prefixes of lists

module _ {A : Type 0} where
  -- Every prefix of the empty list is empty.
  pub take_none : (n : ℕ) → ◌≡◌ {A = List A} [] (take n [])
  take_none zero = refl
  take_none (suc n) = refl

  -- A prefix is not longer than the list.
  pub take_short : (n : ℕ) (xs : List A) → length (take n xs) ≤ length xs
  take_short zero xs = omega arith
  take_short (suc n) [] = omega arith
  take_short (suc n) (x ∷ xs) = omega (arith, take_short n xs)

  -- A prefix shorter than the requested length is the whole list.
  pub take_few : (n : ℕ) (xs : List A) → length (take (suc n) xs) ≤ n → (length xs ≤ n) × (take (suc n) xs ≡ xs)
  take_few n [] few = (omega arith, refl)
  take_few zero (x ∷ xs) few = absurd (omega arith)
  take_few (suc n) (x ∷ xs) few = let rest = take_few n xs (omega arith) in (omega (arith, rest.0), ap (λ t. x ∷ t) rest.1)

  -- Appending to a prefix of at least k elements does not change the first k elements of the joined
  -- list.
  pub take_front : (k n : ℕ) (xs ys : List A) → k ≤ n → take k (take n xs ++ ys) ≡ take k (xs ++ ys)
  take_front zero n xs ys le = refl
  take_front (suc k) zero xs ys le = absurd (omega arith)
  take_front (suc k) (suc n) [] ys le = refl
  take_front (suc k) (suc n) (x ∷ xs) ys le = ap (λ t. x ∷ t) (take_front k n xs ys (omega arith))

-- ---- lists whose elements are read one after another

module _ {A B F : Type 0} (read : ℕ → A → Result B F) where
  -- If a list and then one more element are read, the extended list is read.
  read_snoc : (i : ℕ) (xs : List A) (x : A) (ys : List B) (y : B) → read_each read i xs ≡ Ok ys → read (i + length xs) x ≡ Ok y
      → read_each read i (xs ++ x ∷ []) ≡ Ok (ys ++ y ∷ [])
  unfolding read_each
  read_snoc i [] x ys y e r =
      let none : [] ≡ ys = cc in
      let now : read i x ≡ Ok y = ap (λ n. read n x) (sym (add-zero i)) ∙ r in
      rw now (ap (λ zs. Ok (zs ++ y ∷ [])) none)
  read_snoc i (a ∷ xs) x ys y e r =
      elim (read i a) as (λ o. result_and_then (λ b. result_map (λ bs. b ∷ bs) (read_each read (suc i) xs)) o ≡ Ok ys
      → result_and_then (λ b. result_map (λ bs. b ∷ bs) (read_each read (suc i) (xs ++ x ∷ []))) o ≡ Ok (ys ++ y ∷ [])) [
        | Ok b ↦ λ f. rest (λ bs. read_snoc (suc i) xs x bs y) b (read_each read (suc i) xs) refl f
        | Err fault ↦ λ f. cc
      ] e
    where
      rest : ((bs : List B) → read_each read (suc i) xs ≡ Ok bs → read (suc i + length xs) x ≡ Ok y
          → read_each read (suc i) (xs ++ x ∷ []) ≡ Ok (bs ++ y ∷ []))
          → (b : B) (o : Result (List B) F) → read_each read (suc i) xs ≡ o → result_map (λ bs. b ∷ bs) o ≡ Ok ys
          → result_map (λ bs. b ∷ bs) (read_each read (suc i) (xs ++ x ∷ [])) ≡ Ok (ys ++ y ∷ [])
      rest more_of b (Ok bs) is f =
          let later : read (suc i + length xs) x ≡ Ok y = ap (λ n. read n x) (let same : suc i + length xs ≡ i + suc (length xs) = omega arith in same) ∙ r in
          let more = more_of bs is later in
          let whole : b ∷ bs ≡ ys = cc in
          rw more (ap (λ zs. Ok (zs ++ y ∷ [])) whole)
      rest more_of b (Err fault) is f = cc

  -- If an element after a list that was read is invalid, the whole list has its fault.
  read_refused : (i : ℕ) (xs zs : List A) (x : A) (ys : List B) (fault : F) → read_each read i xs ≡ Ok ys → read (i + length xs) x ≡ Err fault
      → read_each read i (xs ++ x ∷ zs) ≡ Err fault
  unfolding read_each
  read_refused i [] zs x ys fault e r =
      let now : read i x ≡ Err fault = ap (λ n. read n x) (sym (add-zero i)) ∙ r in
      rw now refl
  read_refused i (a ∷ xs) zs x ys fault e r =
      elim (read i a) as (λ o. result_and_then (λ b. result_map (λ bs. b ∷ bs) (read_each read (suc i) xs)) o ≡ Ok ys
      → result_and_then (λ b. result_map (λ bs. b ∷ bs) (read_each read (suc i) (xs ++ x ∷ zs))) o ≡ Err fault) [
        | Ok b ↦ λ f. rest (λ bs. read_refused (suc i) xs zs x bs fault) b (read_each read (suc i) xs) refl f
        | Err other ↦ λ f. cc
      ] e
    where
      rest : ((bs : List B) → read_each read (suc i) xs ≡ Ok bs → read (suc i + length xs) x ≡ Err fault
          → read_each read (suc i) (xs ++ x ∷ zs) ≡ Err fault)
          → (b : B) (o : Result (List B) F) → read_each read (suc i) xs ≡ o → result_map (λ bs. b ∷ bs) o ≡ Ok ys
          → result_map (λ bs. b ∷ bs) (read_each read (suc i) (xs ++ x ∷ zs)) ≡ Err fault
      rest refused b (Ok bs) is f =
          let later : read (suc i + length xs) x ≡ Err fault = ap (λ n. read n x) (let same : suc i + length xs ≡ i + suc (length xs) = omega arith
          in same) ∙ r in
          rw (refused bs is later) refl
      rest refused b (Err other) is f = cc

  module _ {V : Type 0} (v : V → A) (xs : List V) (k : ℕ) (x : V) (ys : List B) where
    -- The prefix before element k has length k.
    so_far : k < length xs → length (map v (take k xs)) ≡ k
    so_far h = length-map (take k xs) v ∙ length-take-le k xs (omega arith)

    -- The prefix that includes element k is the prefix before it followed by the element.
    longer : k < length xs → x ≡ get_or xs k x → map v (take (k + 1) xs) ≡ map v (take k xs) ++ v x ∷ []
    longer h is = ap (map v) (take_more xs k x h ∙ ap (λ z. take k xs ++ z ∷ []) (sym is)) ∙ map-append v (take k xs) (x ∷ [])

    -- If the elements before element k and the element itself are read, the longer prefix is read.
    pub read_more : (y : B) → k < length xs → x ≡ get_or xs k x → read_each read 0 (map v (take k xs)) ≡ Ok ys → read k (v x) ≡ Ok y
        → read_each read 0 (map v (take (k + 1) xs)) ≡ Ok (ys ++ y ∷ [])
    read_more y h is e r =
        let here : read (0 + length (map v (take k xs))) (v x) ≡ Ok y =
        ap (λ n. read n (v x)) (let same : 0 + length (map v (take k xs)) ≡ k = omega (arith, so_far h) in same) ∙ r in
        ap (read_each read 0) (longer h is) ∙ read_snoc 0 (map v (take k xs)) (v x) ys y e here

    -- If the elements before element k are read and the element is invalid, the list has its fault.
    pub read_stops : (fault : F) → k < length xs → x ≡ get_or xs k x → read_each read 0 (map v (take k xs)) ≡ Ok ys → read k (v x) ≡ Err fault
        → read_each read 0 (map v xs) ≡ Err fault
    read_stops fault h is e r =
        let split : map v xs ≡ map v (take k xs) ++ v x ∷ map v (drop (k + 1) xs) =
        ap (map v) (sym (take-append-drop (k + 1) xs)) ∙ map-append v (take (k + 1) xs) (drop (k + 1) xs)
        ∙ ap (λ zs. zs ++ map v (drop (k + 1) xs)) (longer h is)
        ∙ append_assoc (map v (take k xs)) (v x ∷ []) (map v (drop (k + 1) xs)) in
        let here : read (0 + length (map v (take k xs))) (v x) ≡ Err fault =
        ap (λ n. read n (v x)) (let same : 0 + length (map v (take k xs)) ≡ k = omega (arith, so_far h) in same) ∙ r in
        ap (read_each read 0) split ∙ read_refused 0 (map v (take k xs)) (map v (drop (k + 1) xs)) (v x) ys fault e here
