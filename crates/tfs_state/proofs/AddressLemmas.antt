-- Lemmas about addresses in two parts.
use Rattle.std.proofs.Common.{refl, append_assoc, ◌≡◌, ℕ, ◌<◌, ◌≤◌, [], ◌∷◌, arith, ◌↔◌, List, ◌++◌, length, take, drop, true, false, IsTrue, sym, ap, ◌∙◌}
use Rattle.std.specs.Cmp.Lexicographic.{slice_cmp, nat_list_cmp_total}
use Rattle.std.specs.Ordering.{nat_cmp, ordering_then, ordering_reverse}
use Rattle.std.specs.declared.cmp.Ordering.{Ordering}
use Rattle.std.specs.declared.cmp.Ordering.TheVariants.{Less, Equal, Greater}
use Rattle.std.specs.Str.{bytes_eq}
use Rattle.std.proofs.Math.Seq.{drop-append_seam, take-append_seam}
use Rattle.std.proofs.lemmas.List.{take-append-drop, length-take-le}
use Rattle.std.proofs.lemmas.Slice.Eq.{bytes_eq-Decides}

module _ (front tail text : List ℕ) where
  -- If the front is a prefix of the text, the whole equals the text if and only if the tail is the
  -- rest of the text.
  pub text_with_prefix : (rest : List ℕ) → bytes_eq (take (length front) text) front ≡ true → rest ≡ drop (length front) text
      → IsTrue (bytes_eq rest tail) ↔ (front ++ tail ≡ text)
  text_with_prefix rest prefix is = (
    λ same. ap (λ f. f ++ tail) (sym ((bytes_eq-Decides (take (length front) text) front).0 prefix))
        ∙ ap (λ t. take (length front) text ++ t) (sym ((bytes_eq-Decides rest tail).0 same) ∙ is) ∙ take-append-drop (length front) text,
    λ whole. (bytes_eq-Decides rest tail).1 (is ∙ ap (drop (length front)) (sym whole) ∙ drop-append_seam front tail),
  )

  -- If the front is not a prefix of the text, the whole does not equal the text.
  pub text_without_prefix : bytes_eq (take (length front) text) front ≡ false → IsTrue false ↔ (front ++ tail ≡ text)
  text_without_prefix prefix = (
    λ same. cc,
    λ whole. sym prefix ∙ (bytes_eq-Decides (take (length front) text) front).1 (ap (take (length front)) (sym whole) ∙ take-append_seam front tail),
  )

-- ---- the order of texts in parts

-- Joining orders is associative.
then_assoc : (a b c : Ordering) → ordering_then (ordering_then a b) c ≡ ordering_then a (ordering_then b c)
then_assoc Less b c = refl
then_assoc Equal b c = refl
then_assoc Greater b c = refl

-- If the first parts are of equal length, the order of the texts is the order of the first parts,
-- then of the second parts.
pub cmp_parts : (xs ys : List ℕ) (xs' ys' : List ℕ) → length xs ≡ length ys
    → slice_cmp nat_cmp (xs ++ xs') (ys ++ ys') ≡ ordering_then (slice_cmp nat_cmp xs ys) (slice_cmp nat_cmp xs' ys')
cmp_parts [] [] xs' ys' e = refl
cmp_parts [] (y ∷ ys) xs' ys' e = let no : ⊥ = omega (arith, e) in absurd no
cmp_parts (x ∷ xs) [] xs' ys' e = let no : ⊥ = omega (arith, e) in absurd no
cmp_parts (x ∷ xs) (y ∷ ys) xs' ys' e =
    ap (ordering_then (nat_cmp x y)) (cmp_parts xs ys xs' ys' (let same : length xs ≡ length ys = omega (arith, e) in same))
    ∙ sym (then_assoc (nat_cmp x y) (slice_cmp nat_cmp xs ys) (slice_cmp nat_cmp xs' ys'))

-- Elements beyond the length of a shorter text do not affect the order.
pub cmp_longer : (xs zs ys : List ℕ) → length ys < length xs → slice_cmp nat_cmp (xs ++ zs) ys ≡ slice_cmp nat_cmp xs ys
cmp_longer [] zs ys h = let no : ⊥ = omega (arith, h) in absurd no
cmp_longer (x ∷ xs) zs [] h = refl
cmp_longer (x ∷ xs) zs (y ∷ ys) h = ap (ordering_then (nat_cmp x y)) (cmp_longer xs zs ys (omega (arith, h)))

-- Swapping the operands reverses the order.
pub cmp_reverse : (xs ys : List ℕ) → ordering_reverse (slice_cmp nat_cmp xs ys) ≡ slice_cmp nat_cmp ys xs
cmp_reverse xs ys = sym (nat_list_cmp_total.antisymm ys xs)

-- The order of a text in two parts and another text: the front decides first, then the tail.
pub cmp_split : (front tail text : List ℕ) → length front ≤ length text
    → slice_cmp nat_cmp (front ++ tail) text ≡ ordering_then (slice_cmp nat_cmp front (take (length front) text)) (slice_cmp nat_cmp tail (drop
    (length front) text))
cmp_split front tail text h =
    ap (slice_cmp nat_cmp (front ++ tail)) (sym (take-append-drop (length front) text))
    ∙ cmp_parts front (take (length front) text) tail (drop (length front) text) (sym (length-take-le (length front) text h))

-- The order of two texts in two parts each: the shorter front decides first, then the rest.
pub cmp_split_parts : (front tail other rest : List ℕ) → length front ≤ length other
    → slice_cmp nat_cmp (front ++ tail) (other ++ rest)
    ≡ ordering_then (slice_cmp nat_cmp front (take (length front) other)) (ordering_reverse (slice_cmp nat_cmp (drop (length front) other ++ rest) tail))
cmp_split_parts front tail other rest h =
    ap (λ o. slice_cmp nat_cmp (front ++ tail) (o ++ rest)) (sym (take-append-drop (length front) other))
    ∙ ap (slice_cmp nat_cmp (front ++ tail)) (append_assoc (take (length front) other) (drop (length front) other) rest)
    ∙ cmp_parts front (take (length front) other) tail (drop (length front) other ++ rest) (sym (length-take-le (length front) other h))
    ∙ ap (ordering_then (slice_cmp nat_cmp front (take (length front) other))) (sym (cmp_reverse (drop (length front) other ++ rest) tail))
