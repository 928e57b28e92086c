-- Lemmas about the first fault in the rest of a list.
use Rattle.std.proofs.Common.{◌≡◌, ◌+◌, ◌<◌, ◌≤◌, ℕ, zero, suc, List, [], ◌∷◌, Option, Some, None, length, map, get_or, drop, refl, ◌∙◌, ap, arith}
use Rattle.tfs_connections.specs.declared.accepting.AcceptFault.{AcceptFault}
use Rattle.tfs_serve.specs.Faults.{first_fault_in}

module _ {X : Type 0} (f : X → Option AcceptFault) where
  behind : (xs : List X) (i : ℕ) (d : X) → i < length xs → f (get_or xs i d) ≡ None
      → first_fault_in (map f (drop i xs)) ≡ first_fault_in (map f (drop (suc i) xs))
  behind [] i d inside none = absurd (omega (arith, inside))
  behind (x ∷ xs) zero d inside none = ap (λ (o : Option AcceptFault). first_fault_in (o ∷ map f xs)) none
  behind (x ∷ xs) (suc i) d inside none = behind xs i d (omega (arith, inside)) none

  -- If an element has no fault, the first fault from it on is the first after it.
  pub first_behind : (xs : List X) (i : ℕ) (d : X) → i < length xs → f (get_or xs i d) ≡ None
      → first_fault_in (map f (drop i xs)) ≡ first_fault_in (map f (drop (i + 1) xs))
  first_behind xs i d inside none =
      let next : suc i ≡ i + 1 = omega arith in
      behind xs i d inside none ∙ ap (λ (n : ℕ). first_fault_in (map f (drop n xs))) next

  -- If an element has a fault, the first fault from it on is its own.
  pub first_here : (xs : List X) (i : ℕ) (d : X) (fault : AcceptFault) → i < length xs → f (get_or xs i d) ≡ Some fault
      → first_fault_in (map f (drop i xs)) ≡ Some fault
  first_here [] i d fault inside some = absurd (omega (arith, inside))
  first_here (x ∷ xs) zero d fault inside some = ap (λ (o : Option AcceptFault). first_fault_in (o ∷ map f xs)) some
  first_here (x ∷ xs) (suc i) d fault inside some = first_here xs i d fault (omega (arith, inside)) some

  -- At the end of the list there is no fault.
  pub first_at_end : (xs : List X) (i : ℕ) → length xs ≤ i → first_fault_in (map f (drop i xs)) ≡ None
  first_at_end [] zero out = refl
  first_at_end [] (suc i) out = refl
  first_at_end (x ∷ xs) zero out = absurd (omega (arith, out))
  first_at_end (x ∷ xs) (suc i) out = first_at_end xs i (omega (arith, out))
