-- Lemmas: the sessions report each position once.
use Rattle.std.proofs.Common.{◌≡◌, ◌+◌, ◌<◌, ◌≤◌, ◌==◌, ℕ, zero, suc, Bool, true, false, cond, List, [], ◌∷◌, ◌++◌, length, get_or, refl, sym, ◌∙◌, ap, subst, arith, append_assoc}
use Rattle.std.specs.List.{flat_map}
use Rattle.std.proofs.lemmas.Bool.Decides.{nat_tests}
use Rattle.std.proofs.lemmas.List.Sums.{sum_by-cons, sum_by-append}
use mathlib.Core.List.{IsPrefix}
use Rattle.tfs_records.specs.Journal.{Journal, position_of}
use Rattle.tfs_serve.specs.Told.{times}

-- The session of this number made the change at the position.
pub record IsMadeAt (opening : Journal) (makers : List ℕ) (position number : ℕ) : Type 0 where
  pub front : List ℕ
  pub rest : List ℕ
  pub parts : makers ≡ front ++ number ∷ rest
  pub position_is : position ≡ position_of opening + length front + 1

-- The maker of a change doesn't change when more changes are made.
pub made_later : (opening : Journal) (makers more : List ℕ) (position number : ℕ) → IsPrefix makers more
    → IsMadeAt opening makers position number → IsMadeAt opening more position number
made_later opening makers more position number begins made = record {
  front = made.front;
  rest = made.rest ++ begins.0;
  parts = sym begins.1 ∙ ap (λ (m : List ℕ). m ++ begins.0) made.parts ∙ append_assoc made.front (number ∷ made.rest) begins.0;
  position_is = made.position_is;
}

-- The elements after two prefixes of the same length are equal if the lists are.
same_behind : (f g r s : List ℕ) (n m : ℕ) → f ++ n ∷ r ≡ g ++ m ∷ s → length f ≡ length g → n ≡ m
same_behind [] [] r s n m is even = cc is
same_behind [] (y ∷ g) r s n m is even = absurd (omega (arith, even))
same_behind (x ∷ f) [] r s n m is even = absurd (omega (arith, even))
same_behind (x ∷ f) (y ∷ g) r s n m is even = same_behind f g r s n m (cc is) (omega (arith, even))

-- A change has one maker.
pub one_maker : (opening : Journal) (makers : List ℕ) (position n m : ℕ) → IsMadeAt opening makers position n → IsMadeAt opening makers position m
    → n ≡ m
one_maker opening makers position n m a b =
    let at = a.position_is in
    let is = b.position_is in
    same_behind a.front b.front a.rest b.rest n m (sym a.parts ∙ b.parts) (omega (arith, at, is))

-- Counting a position in a list with a first element counts that element and the rest.
times_more : (p q : ℕ) (rest : List ℕ) → times p (q ∷ rest) ≡ cond (q == p) 1 0 + times p rest
times_more p q rest = sum_by-cons (λ (t : ℕ). cond (t == p) 1 0) q rest

-- Counting a position in a concatenation adds the counts.
pub times_both : (p : ℕ) (xs ys : List ℕ) → times p (xs ++ ys) ≡ times p xs + times p ys
times_both p xs ys = sum_by-append (λ (t : ℕ). cond (t == p) 1 0) xs ys

-- A position that a list of one element reports is that element.
pub times_alone : (p q : ℕ) → 1 ≤ times p (q ∷ []) → q ≡ p
times_alone p q some = by (q == p) refl
  where
    by : (t : Bool) → (q == p) ≡ t → q ≡ p
    by true e = grind (arith, nat_tests, e)
    by false e =
        let none = times_more p q [] ∙ ap (λ (t : Bool). cond t 1 0 + 0) e in
        absurd (omega (arith, some, none))

-- A list of one element reports a position at most once.
pub times_few : (p q : ℕ) → times p (q ∷ []) ≤ 1
times_few p q = by (q == p) refl
  where
    by : (t : Bool) → (q == p) ≡ t → times p (q ∷ []) ≤ 1
    by true e = let is = times_more p q [] ∙ ap (λ (t : Bool). cond t 1 0 + 0) e in omega (arith, is)
    by false e = let is = times_more p q [] ∙ ap (λ (t : Bool). cond t 1 0 + 0) e in omega (arith, is)

-- A list reports its first element.
times_itself : (q : ℕ) (rest : List ℕ) → 1 ≤ times q (q ∷ rest)
times_itself q rest =
    let same : (q == q) ≡ true = grind (arith, nat_tests) in
    let is = times_more q q rest ∙ ap (λ (t : Bool). cond t 1 0 + times q rest) same in
    omega (arith, is)

-- The positions reported by the workers from place `from` on: each at most once, and made by a
-- session whose number is below `number - from`.
pub record TellApart (opening : Journal) (makers : List ℕ) (from number : ℕ) (all : List ℕ) : Type 0 where
  pub once : (p : ℕ) → times p all ≤ 1
  pub made : (p : ℕ) → 1 ≤ times p all → (m : ℕ) × (m + from < number) × IsMadeAt opening makers p m

-- The positions reported by the worker at place `from`: each at most once, and made by its session,
-- number `number - from - 1`.
pub record TellsAlone (opening : Journal) (makers : List ℕ) (from number : ℕ) (told : List ℕ) : Type 0 where
  pub once : (p : ℕ) → times p told ≤ 1
  pub made : (p : ℕ) → 1 ≤ times p told → (m : ℕ) × (m + from + 1 ≡ number) × IsMadeAt opening makers p m

-- If a worker and the workers after it report only positions of their own sessions, they report
-- none twice.
apart_more : (opening : Journal) (makers : List ℕ) (from number : ℕ) (told rest : List ℕ) → TellsAlone opening makers from number told
    → TellApart opening makers (suc from) number rest → TellApart opening makers from number (told ++ rest)
apart_more opening makers from number told rest first others = record {
  once = λ p. once p (times p told) (times p rest) refl refl;
  made = λ p some. made p some (times p told) refl;
}
  where
    apart : (p : ℕ) → 1 ≤ times p told → 1 ≤ times p rest → ⊥
    apart p a b =
        let y = first.made p a in
        let z = others.made p b in
        let same = one_maker opening makers p y.0 z.0 y.2 z.2 in
        let here = y.1 in
        let there = z.1 in
        omega (arith, same, here, there)

    once : (p n m : ℕ) → times p told ≡ n → times p rest ≡ m → times p (told ++ rest) ≤ 1
    once p zero m a b = omega (arith, a, times_both p told rest, others.once p)
    once p (suc n) zero a b = omega (arith, b, times_both p told rest, first.once p)
    once p (suc n) (suc m) a b = absurd (apart p (omega (arith, a)) (omega (arith, b)))

    made : (p : ℕ) → 1 ≤ times p (told ++ rest) → (n : ℕ) → times p told ≡ n → (m : ℕ) × (m + from < number) × IsMadeAt opening makers p m
    made p some zero a =
        let z = others.made p (omega (arith, a, some, times_both p told rest)) in
        let at = z.1 in
        (z.0, omega (arith, at), z.2)
    made p some (suc n) a =
        let y = first.made p (omega (arith, a)) in
        let at = y.1 in
        (y.0, omega (arith, at), y.2)

-- Workers whose sessions have different numbers report no position twice.
pub tell_apart : {X : Type 0} (tell : X → List ℕ) (opening : Journal) (makers : List ℕ) (from number : ℕ) (all : List X)
    → ((i : ℕ) (d : X) → i < length all → TellsAlone opening makers (from + i) number (tell (get_or all i d)))
    → TellApart opening makers from number (flat_map tell all)
tell_apart tell opening makers from number [] each = record {
  once = λ p. omega arith;
  made = λ p some. absurd (omega (arith, some));
}
tell_apart tell opening makers from number (x ∷ all) each =
    let here : from + 0 ≡ from = omega arith in
    apart_more opening makers from number (tell x) (flat_map tell all)
    (subst (λ (n : ℕ). TellsAlone opening makers n number (tell x)) here (each 0 x (omega arith)))
    (tell_apart tell opening makers (suc from) number all (λ i d inside.
    let next : from + suc i ≡ suc from + i = omega arith in
    subst (λ (n : ℕ). TellsAlone opening makers n number (tell (get_or all i d))) next (each (suc i) d (omega (arith, inside)))))

-- The sum of the counts of the first `n` positions after `o`.
span : ℕ → List ℕ → ℕ → ℕ
span o told zero = 0
span o told (suc n) = span o told n + times (o + n + 1) told

-- The sum over no positions is 0.
span_none : (o : ℕ) (told : List ℕ) → span o told 0 ≡ 0
unfolding span
span_none o told = refl

-- The sum over one more position adds its count.
span_next : (o : ℕ) (told : List ℕ) (n : ℕ) → span o told (suc n) ≡ span o told n + times (o + n + 1) told
unfolding span
span_next o told n = refl

-- Counting a position in a list adds its counts in the first element and in the rest.
times_front : (p q : ℕ) (rest : List ℕ) → times p (q ∷ rest) ≡ times p (q ∷ []) + times p rest
times_front p q rest = times_both p (q ∷ []) rest

-- The sum for a list is the sum for its first element plus the sum for the rest.
span_more : (o q : ℕ) (rest : List ℕ) (n : ℕ) → span o (q ∷ rest) n ≡ span o (q ∷ []) n + span o rest n
span_more o q rest zero = omega (arith, span_none o (q ∷ rest), span_none o (q ∷ []), span_none o rest)
span_more o q rest (suc n) =
    let earlier = span_more o q rest n in
    omega (arith, earlier, times_front (o + n + 1) q rest, span_next o (q ∷ rest) n, span_next o (q ∷ []) n, span_next o rest n)

-- The sum for a single position beyond the range is 0.
span_outside : (o q n : ℕ) → o + n < q → span o (q ∷ []) n ≡ 0
span_outside o q zero beyond = span_none o (q ∷ [])
span_outside o q (suc n) beyond =
    let earlier = span_outside o q n (omega (arith, beyond)) in
    let other : (q == (o + n + 1)) ≡ false = grind (arith, nat_tests, beyond) in
    let none = times_more (o + n + 1) q [] ∙ ap (λ (t : Bool). cond t 1 0 + 0) other in
    omega (arith, earlier, none, span_next o (q ∷ []) n)

-- The sum for a single position within the range is 1.
span_inside : (o q n : ℕ) → o < q → q ≤ o + n → span o (q ∷ []) n ≡ 1
span_inside o q zero above inside = absurd (omega (arith, above, inside))
span_inside o q (suc n) above inside = by (q == (o + n + 1)) refl (λ lower. span_inside o q n above lower)
  where
    by : (t : Bool) → (q == (o + n + 1)) ≡ t → (q ≤ o + n → span o (q ∷ []) n ≡ 1) → span o (q ∷ []) (suc n) ≡ 1
    by true e before =
        let at : q ≡ o + n + 1 = grind (arith, nat_tests, e) in
        let earlier = span_outside o q n (omega (arith, at)) in
        let one = times_more (o + n + 1) q [] ∙ ap (λ (t : Bool). cond t 1 0 + 0) e in
        omega (arith, earlier, one, span_next o (q ∷ []) n)
    by false e before =
        let lower : q ≤ o + n = grind (arith, nat_tests, e, inside) in
        let earlier = before lower in
        let none = times_more (o + n + 1) q [] ∙ ap (λ (t : Bool). cond t 1 0 + 0) e in
        omega (arith, earlier, none, span_next o (q ∷ []) n)

-- If all reported positions are within the range, the sum is their number.
span_all : (o n : ℕ) (told : List ℕ) → ((p : ℕ) → 1 ≤ times p told → (o < p) × (p ≤ o + n)) → span o told n ≡ length told
span_all o n [] inside = none n
  where
    none : (k : ℕ) → span o [] k ≡ 0
    none zero = span_none o []
    none (suc k) = let earlier = none k in omega (arith, earlier, span_next o [] k)
span_all o n (q ∷ rest) inside =
    let at = inside q (times_itself q rest) in
    let one = span_inside o q n at.0 at.1 in
    let others = span_all o n rest (λ p some. inside p (omega (arith, some, times_front p q rest))) in
    omega (arith, one, others, span_more o q rest n)

-- If each position is reported at most once, the sum is at most the number of positions.
span_few : (o n : ℕ) (told : List ℕ) → ((p : ℕ) → times p told ≤ 1) → span o told n ≤ n
span_few o zero told once = omega (arith, span_none o told)
span_few o (suc n) told once = let earlier = span_few o n told once in omega (arith, earlier, once (o + n + 1), span_next o told n)

-- If each is reported at most once, and one not at all, the sum is less than that number.
span_lacks : (o n p : ℕ) (told : List ℕ) → ((q : ℕ) → times q told ≤ 1) → o < p → p ≤ o + n → times p told ≡ 0 → span o told n < n
span_lacks o zero p told once above inside none = absurd (omega (arith, above, inside))
span_lacks o (suc n) p told once above inside none = by (p == (o + n + 1)) refl (λ lower. span_lacks o n p told once above lower none)
  where
    by : (t : Bool) → (p == (o + n + 1)) ≡ t → (p ≤ o + n → span o told n < n) → span o told (suc n) < suc n
    by true e before =
        let at : p ≡ o + n + 1 = grind (arith, nat_tests, e) in
        let here : times (o + n + 1) told ≡ 0 = subst (λ (q : ℕ). times q told ≡ 0) at none in
        let earlier = span_few o n told once in
        omega (arith, earlier, here, span_next o told n)
    by false e before =
        let lower : p ≤ o + n = grind (arith, nat_tests, e, inside) in
        let earlier = before lower in
        omega (arith, earlier, once (o + n + 1), span_next o told n)

-- If as many positions are reported as there are in the range, none twice, each is reported once.
pub each_once : (o n : ℕ) (told : List ℕ) → length told ≡ n → ((p : ℕ) → times p told ≤ 1)
    → ((p : ℕ) → 1 ≤ times p told → (o < p) × (p ≤ o + n)) → (p : ℕ) → o < p → p ≤ o + n → times p told ≡ 1
each_once o n told many once inside p above within = by (times p told) refl
  where
    by : (k : ℕ) → times p told ≡ k → times p told ≡ 1
    by zero e =
        let fewer = span_lacks o n p told once above within e in
        absurd (omega (arith, fewer, span_all o n told inside, many))
    by (suc k) e = omega (arith, e, once p)
