-- Lemmas about ranges of positions that are each reported once.
use Rattle.std.proofs.Common.{◌≡◌, ◌+◌, ◌≤◌, ◌<◌, ◌==◌, ℕ, zero, suc, nat_lt, length, List, [], ◌∷◌, ◌++◌, Bool, true, false, cond, refl, sym, ◌∙◌, ap, arith}
use Rattle.tfs_serve.specs.Told.{times}
use Rattle.std.proofs.lemmas.Bool.Decides.{nat_tests}
use Rattle.std.proofs.lemmas.List.Sums.{sum_by-cons, sum_by-append}

-- Counting a number in a list with a first element counts that element and the rest.
times_more : (p q : ℕ) (rest : List ℕ) → times p (q ∷ rest) ≡ cond (q == p) 1 0 + times p rest
times_more p q rest = sum_by-cons (λ (t : ℕ). cond (t == p) 1 0) q rest

-- The list without a number.
abbrev without : ℕ → List ℕ → List ℕ
without b [] = []
without b (x ∷ xs) = cond (x == b) (without b xs) (x ∷ without b xs)

-- The length of the list without a number, by whether the first element is that number.
length_by : (t : Bool) (b x : ℕ) (xs : List ℕ) → length (without b xs) + times b xs ≡ length xs
    → length (cond t (without b xs) (x ∷ without b xs)) + (cond t 1 0 + times b xs) ≡ suc (length xs)
length_by true b x xs rest = omega (arith, rest)
length_by false b x xs rest = omega (arith, rest)

-- The length of a list is its length without a number plus the number's count.
length_without : (b : ℕ) (xs : List ℕ) → length (without b xs) + times b xs ≡ length xs
length_without b [] = refl
length_without b (x ∷ xs) =
    let more = times_more b x xs in
    let all = length_by (x == b) b x xs (length_without b xs) in omega (arith, more, all)

-- The count of another number in the list without one, by whether the first element is dropped.
times_by : (t : Bool) (b q x : ℕ) (xs : List ℕ) → (x == b) ≡ t → (q == b) ≡ false → times q (without b xs) ≡ times q xs
    → times q (cond t (without b xs) (x ∷ without b xs)) ≡ cond (x == q) 1 0 + times q xs
times_by true b q x xs is apart rest =
    let other : (x == q) ≡ false = grind (arith, nat_tests, is, apart) in
    let ones : Bool → ℕ = λ t. cond t 1 0 in
    let none : ones (x == q) ≡ 0 = ap ones other in omega (arith, rest, none)
times_by false b q x xs is apart rest =
    let more = times_more q x (without b xs) in omega (arith, more, rest)

-- Removing a number doesn't change the count of another.
times_without : (b q : ℕ) (xs : List ℕ) → (q == b) ≡ false → times q (without b xs) ≡ times q xs
times_without b q [] apart = refl
times_without b q (x ∷ xs) apart =
    times_by (x == b) b q x xs refl apart (times_without b q xs apart) ∙ sym (times_more q x xs)

-- A number outside a range isn't its last one.
apart_from : (a n q : ℕ) → (a < q → q ≤ a + suc n → ⊥) → (q == (a + suc n)) ≡ false
apart_from a n q out =
    elim (q == (a + suc n)) as (λ t. (q == (a + suc n)) ≡ t → t ≡ false) [
      | true ↦ λ e.
          let same : q ≡ a + suc n = grind (arith, nat_tests, e) in absurd (out (omega (arith, same)) (omega (arith, same)))
      | false ↦ λ e. refl
    ] refl

-- A position before the last of a range isn't the last.
before_last : (a n p : ℕ) → p ≤ a + n → (p == (a + suc n)) ≡ false
before_last a n p within =
    elim (p == (a + suc n)) as (λ t. (p == (a + suc n)) ≡ t → t ≡ false) [
      | true ↦ λ e.
          let same : p ≡ a + suc n = grind (arith, nat_tests, e) in absurd (omega (arith, same, within))
      | false ↦ λ e. refl
    ] refl

-- If each position of a range is reported once, and only as many are reported, no other is.
pub told_alone : (n a : ℕ) (told : List ℕ) → length told ≡ n → ((p : ℕ) → a < p → p ≤ a + n → times p told ≡ 1)
    → (q : ℕ) → (a < q → q ≤ a + n → ⊥) → times q told ≡ 0
told_alone zero a [] many each q out = refl
told_alone zero a (x ∷ xs) many each q out = absurd (omega (arith, many))
told_alone (suc n) a told many each q out =
    let one = each (a + suc n) (omega arith) (omega arith) in
    let all = length_without (a + suc n) told in
    let fewer : length (without (a + suc n) told) ≡ n = omega (arith, many, all, one) in
    sym (times_without (a + suc n) q told (apart_from a n q out))
    ∙ told_alone n a (without (a + suc n) told) fewer
    (λ p above within. times_without (a + suc n) p told (before_last a n p within) ∙ each p above (omega (arith, within)))
    q (λ above within. out above (omega (arith, within)))

-- If a range is reported once, and then the next range, both together are.
pub told_then : (a b c : ℕ) (first more : List ℕ) → a + length first ≡ b → b + length more ≡ c
    → ((p : ℕ) → a < p → p ≤ b → times p first ≡ 1) → ((p : ℕ) → b < p → p ≤ c → times p more ≡ 1)
    → (p : ℕ) → a < p → p ≤ c → times p (first ++ more) ≡ 1
told_then a b c first more to_b to_c each others p above within =
    let both = sum_by-append (λ (t : ℕ). cond (t == p) 1 0) first more in
    elim (nat_lt b p) as (λ t. nat_lt b p ≡ t → times p (first ++ more) ≡ 1) [
      | true ↦ λ e.
          let beyond : b < p = grind (arith, nat_tests, e) in
          let none = told_alone (length first) a first refl (λ q over under. each q over (omega (arith, under, to_b))) p
          (λ over under. absurd (omega (arith, beyond, under, to_b))) in
          let one = others p beyond within in omega (arith, both, none, one)
      | false ↦ λ e.
          let before : p ≤ b = grind (arith, nat_tests, e) in
          let none = told_alone (length more) b more refl (λ q over under. others q over (omega (arith, under, to_c))) p
          (λ over under. absurd (omega (arith, before, over))) in
          let one = each p above before in omega (arith, both, none, one)
    ] refl
