-- Lemmas about loops over words: the invariants of the loops, and their steps.
use Rattle.std.proofs.Common.{◌≡◌, ℕ, ◌+◌, ◌-◌, ◌*◌, ◌%◌, ◌^◌, ◌<◌, ◌≤◌, suc, zero, Bool, cond, not, eqb, Decides, List, [], ◌∷◌, ◌++◌, length, take}
use Rattle.std.proofs.Common.{drop, get_or, set, map, sum_by, count_ones, Fits, w64, refl, ap, sym, ◌∙◌, inl, inr, arith}
use Rattle.std.proofs.Math.Seq.{take-add}
use Rattle.std.proofs.lemmas.Bool.{cases_Bool, eqb-true, eq-eqb}
use Rattle.std.proofs.lemmas.List.{append-nil, drop_all, drop_at, take_at, length-drop, length-take-le, take-append-drop}
use Rattle.std.proofs.lemmas.List.Elements.{All-from_get_or}
use Rattle.std.proofs.lemmas.List.Sums.{sum_by-append, sum_by-le}
use Rattle.std.proofs.lemmas.Nat.{ones-le}
use Rattle.std.proofs.lemmas.Simd.{length-zip2, mask_l-mod, tops_compared}
use Rattle.std.specs.Simd.Lanes.{zip2, chunk, put_chunk, mask_l, top}
use borrow.Rule.Slice.PartMut.{put_mid}

-- The first n elements of xs combined with those of ys, followed by the remaining elements of xs.
abbrev pub front : {X : Type 0} → (X → X → X) → ℕ → List X → List X → List X
front f zero xs ys = xs
front f (suc n) [] ys = []
front f (suc n) (x ∷ xs) [] = x ∷ xs
front f (suc n) (x ∷ xs) (y ∷ ys) = f x y ∷ front f n xs ys

-- If n covers the whole list, the result is `zip2`.
pub front_all : {X : Type 0} (f : X → X → X) (n : ℕ) (xs ys : List X) → length xs ≤ n → length xs ≡ length ys → front f n xs ys ≡ zip2 f xs ys
front_all f zero [] ys short same = refl
front_all f zero (x ∷ xs) ys short same = absurd (omega arith)
front_all f (suc n) [] ys short same = refl
front_all f (suc n) (x ∷ xs) [] short same = absurd (omega arith)
front_all f (suc n) (x ∷ xs) (y ∷ ys) short same = ap (λ zs. f x y ∷ zs) (front_all f n xs ys (omega arith) (omega arith))

-- Combining the first n elements keeps the length.
pub length-front : {X : Type 0} (f : X → X → X) (n : ℕ) (xs ys : List X) → length (front f n xs ys) ≡ length xs
length-front f zero xs ys = refl
length-front f (suc n) [] ys = refl
length-front f (suc n) (x ∷ xs) [] = refl
length-front f (suc n) (x ∷ xs) (y ∷ ys) = ap suc (length-front f n xs ys)

-- Writing a combined chunk at the start of a list combines its first k elements.
put_first : {X : Type 0} (f : X → X → X) (k : ℕ) (xs ys : List X) → length xs ≡ length ys → put_chunk 0 xs (zip2 f (take k xs) (take k ys)) ≡ front f k xs ys
put_first f zero [] ys same = refl
put_first f zero (x ∷ xs) ys same = refl
put_first f (suc k) [] ys same = refl
put_first f (suc k) (x ∷ xs) [] same = absurd (omega arith)
put_first f (suc k) (x ∷ xs) (y ∷ ys) same = ap (λ zs. f x y ∷ zs) (put_first f k xs ys (omega arith))

-- Combining the next chunk extends the combined part by k elements.
pub front_chunk : {X : Type 0} (f : X → X → X) (n k m : ℕ) (xs ys : List X) → m ≡ n + k → length xs ≡ length ys →
    put_chunk n (front f n xs ys) (zip2 f (chunk n k (front f n xs ys)) (chunk n k ys)) ≡ front f m xs ys
front_chunk f zero k m xs ys e same = let to : m ≡ k = omega arith in rw to (put_first f k xs ys same)
front_chunk f (suc n) k zero xs ys e same = absurd (omega arith)
front_chunk f (suc n) k (suc m) [] ys e same = refl
front_chunk f (suc n) k (suc m) (x ∷ xs) [] e same = absurd (omega arith)
front_chunk f (suc n) k (suc m) (x ∷ xs) (y ∷ ys) e same = ap (λ zs. f x y ∷ zs) (front_chunk f n k m xs ys (omega arith) (omega arith))

-- Combining the next element extends the combined part by one element.
pub front_set : {X : Type 0} (f : X → X → X) (n m : ℕ) (xs ys : List X) (d e : X) → m ≡ n + 1 → length xs ≡ length ys → n < length xs →
    set (front f n xs ys) n (f (get_or (front f n xs ys) n d) (get_or ys n e)) ≡ front f m xs ys
front_set f zero m [] ys d e to same in_range = absurd (omega arith)
front_set f zero m (x ∷ xs) [] d e to same in_range = absurd (omega arith)
front_set f zero m (x ∷ xs) (y ∷ ys) d e to same in_range = let one : m ≡ 1 = omega arith in rw one refl
front_set f (suc n) zero xs ys d e to same in_range = absurd (omega arith)
front_set f (suc n) (suc m) [] ys d e to same in_range = absurd (omega arith)
front_set f (suc n) (suc m) (x ∷ xs) [] d e to same in_range = absurd (omega arith)
front_set f (suc n) (suc m) (x ∷ xs) (y ∷ ys) d e to same in_range = ap (λ zs. f x y ∷ zs) (front_set f n m xs ys d e (omega arith) (omega arith) (omega arith))

-- The combinations of two parts, joined, are the combination of the whole lists.
pub zip2_parts : {X : Type 0} (f : X → X → X) (n : ℕ) (xs ys : List X) → length xs ≡ length ys →
    zip2 f (take n xs) (take n ys) ++ zip2 f (drop n xs) (drop n ys) ≡ zip2 f xs ys
zip2_parts f zero xs ys same = refl
zip2_parts f (suc n) [] ys same = refl
zip2_parts f (suc n) (x ∷ xs) [] same = absurd (omega arith)
zip2_parts f (suc n) (x ∷ xs) (y ∷ ys) same = ap (λ zs. f x y ∷ zs) (zip2_parts f n xs ys (omega arith))

-- If the first n elements are combined first and the rest after them, the whole lists are combined.
pub parts_combined : {X : Type 0} (f : X → X → X) (n k : ℕ) (xs ys done rest : List X) → n ≤ length xs → length xs ≡ length ys →
    done ≡ zip2 f (take n xs) (take n ys) → rest ≡ zip2 f (drop n (done ++ drop n xs)) (drop n ys) → length xs ≤ n + k →
    put_mid n k (done ++ drop n xs) rest ≡ zip2 f xs ys
parts_combined f n k xs ys done rest within same first second whole =
    let long : length done ≡ n = ap length first ∙ length-zip2 f (take n xs) (take n ys)
    (length-take-le n xs within ∙ sym (length-take-le n ys (omega arith))) ∙ length-take-le n xs within in
    let past : drop k (drop n xs) ≡ [] = drop_all k (drop n xs) (omega (arith, length-drop n xs)) in
    let rest_is : rest ≡ zip2 f (drop n xs) (drop n ys) = second ∙ ap (λ zs. zip2 f zs (drop n ys)) (drop_at done (drop n xs) n long) in
    ap (λ zs. zs ++ (rest ++ drop k (drop n (done ++ drop n xs)))) (take_at done (drop n xs) n long)
    ∙ ap (λ zs. done ++ (rest ++ drop k zs)) (drop_at done (drop n xs) n long)
    ∙ ap (λ zs. done ++ (rest ++ zs)) past
    ∙ ap (λ zs. done ++ zs) (append-nil rest)
    ∙ ap (λ zs. done ++ zs) rest_is
    ∙ ap (λ zs. zs ++ zip2 f (drop n xs) (drop n ys)) first
    ∙ zip2_parts f n xs ys same

-- The sum over a longer prefix is the sum over the shorter prefix plus the sum over the chunk
-- between.
pub sum_chunk : (g : ℕ → ℕ) (n k m : ℕ) (xs : List ℕ) → m ≡ n + k → sum_by g (take m xs) ≡ sum_by g (take n xs) + sum_by g (chunk n k xs)
sum_chunk g n k m xs e = ap (λ j. sum_by g (take j xs)) e ∙ ap (sum_by g) (take-add n k xs) ∙ sum_by-append g (take n xs) (take k (drop n xs))

-- The number of ones is at most 64 for each word.
pub count_bound : (xs : List ℕ) → ((k : ℕ) → Fits w64 (get_or xs k 0)) → sum_by count_ones xs ≤ length xs * 64
count_bound xs fits = sum_by-le count_ones 64 xs (All-from_get_or (λ x. count_ones x ≤ 64) xs 0 (λ i _. ones-le 64 (get_or xs i 0) (fits i).fits))

-- Two vectors are equal if no lane differs.
same_from_no_difference : (xs ys : List ℕ) → length xs ≡ length ys → mask_l (zip2 (λ a b. not (eqb a b)) xs ys) ≡ 0 → xs ≡ ys
same_from_no_difference [] [] same none = refl
same_from_no_difference [] (y ∷ ys) same none = absurd (omega arith)
same_from_no_difference (x ∷ xs) [] same none = absurd (omega arith)
same_from_no_difference (x ∷ xs) (y ∷ ys) same none =
    elim (cases_Bool (eqb x y)) [
      | inl equal ↦ ap (λ z. z ∷ xs) (eqb-true x y equal) ∙ ap (λ zs. y ∷ zs) (same_from_no_difference xs ys (omega arith) (omega arith))
      | inr differ ↦ let one : cond {A = ℕ} (not (eqb x y)) 1 0 ≡ 1 = ap (λ b. cond (not b) 1 0) differ in absurd (omega arith)
    ]

-- No lane of a vector differs from itself.
no_difference : (xs : List ℕ) → mask_l (zip2 (λ a b. not (eqb a b)) xs xs) ≡ 0
no_difference [] = refl
no_difference (x ∷ xs) =
    let equal : cond {A = ℕ} (not (eqb x x)) 1 0 ≡ 0 = ap (λ b. cond (not b) 1 0) (eq-eqb x x refl) in
    omega (arith, no_difference xs)

-- The mask of the differing lanes is 0 if and only if the vectors are equal.
pub differ_mask : (xs ys : List ℕ) → length xs ≡ 8 → length ys ≡ 8 → Decides
    (eqb (mask_l (map (top 63) (zip2 (λ a b. cond (not (eqb a b)) (2 ^ 64 - 1) 0) xs ys)) % 2 ^ 64) 0) (xs ≡ ys)
differ_mask xs ys long also =
    let ne : ℕ → ℕ → Bool = λ a b. not (eqb a b) in
    let whole : mask_l (map (top 63) (zip2 (λ a b. cond (not (eqb a b)) (2 ^ 64 - 1) 0) xs ys)) % 2 ^ 64 ≡ mask_l (zip2 ne xs ys) = ap
    (λ ms. mask_l ms % 2 ^ 64) (tops_compared w64 ne xs ys) ∙ mask_l-mod (zip2 ne xs ys) 64 (omega (arith, length-zip2 ne xs ys (omega arith))) in (
      λ zero_mask. same_from_no_difference xs ys (omega arith) (sym whole ∙ eqb-true _ _ zero_mask),
      λ equal. eq-eqb _ _ (whole ∙ ap (λ zs. mask_l (zip2 ne xs zs)) (sym equal) ∙ no_difference xs),
    )

-- Lists that agree before a chunk and in it agree up to the chunk's end.
pub same_with_chunk : (n k m : ℕ) (xs ys : List ℕ) → m ≡ n + k → take n xs ≡ take n ys → chunk n k xs ≡ chunk n k ys → take m xs ≡ take m ys
same_with_chunk n k m xs ys e before within =
    ap (λ j. take j xs) e ∙ take-add n k xs ∙ ap (λ zs. zs ++ take k (drop n xs)) before ∙ ap (λ zs. take n ys ++ zs) within ∙ sym (take-add n k ys)
    ∙ ap (λ j. take j ys) (sym e)

-- Lists are equal if both their parts are equal.
pub same_parts : (n : ℕ) (xs ys : List ℕ) → take n xs ≡ take n ys → drop n xs ≡ drop n ys → xs ≡ ys
same_parts n xs ys first second = sym (take-append-drop n xs) ∙ ap (λ zs. zs ++ drop n xs) first ∙ ap (λ zs. take n ys ++ zs) second ∙ take-append-drop n ys
