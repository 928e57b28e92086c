-- Lemmas about finding a name among places.
use Rattle.std.proofs.Common.{◌≡◌, ℕ, ◌+◌, ◌<◌, nat_lt, not, Bool, true, false, ◌||◌, List, [], ◌∷◌, zero, suc, length, map}
use Rattle.std.proofs.Common.{get_or, slice_get, Option, Some, None, option_map, refl, sym, ◌∙◌, ap, subst, IfSome, cond, arith}
use Rattle.std.specs.List.{position, position_or_len, list_any}
use Rattle.std.specs.Str.{bytes_eq}
use Rattle.std.proofs.lemmas.Bool.Decides.{nat_tests}
use Rattle.std.proofs.lemmas.List.{length-map}
use Rattle.std.proofs.lemmas.List.Quantifiers.{position-Some}
use Rattle.std.proofs.lemmas.Option.{slice_get_within}
use Rattle.std.proofs.lemmas.Slice.Eq.{bytes_eq-Decides}
use Rattle.tfs_rules.specs.History.{state_of}
use Rattle.tfs_records.specs.Journal.{Journal, acts_of, names_of}
use Rattle.tfs_records.proofs.NameLemmas.{bytes_same}
use Rattle.tfs_records.proofs.JournalLemmas.{acts_of_absent}
use Rattle.tfs_published.specs.Lookup.{IsLookup}
use Rattle.tfs_published.specs.Place.{place_view, has_name}
use Rattle.tfs_published.specs.PlaceView.{place_with}
use Rattle.tfs_published.specs.Published.{place_given, ArePlacesOf}
use Rattle.tfs_published.specs.declared.lookup.Lookup.{Lookup}
use Rattle.tfs_published.specs.declared.place.Place.{Place}
use Rattle.tfs_published.specs.declared.place.Place.TheVariants.{Empty}
use Rattle.tfs_published.specs.declared.view.PlaceView.{PlaceView}
use Rattle.tfs_published.proofs.Places.{given_wide, given_at}

-- An element of a mapped list is the function's value of the element in the list.
get_mapped : {X Y : Type 0} (f : X → Y) (xs : List X) (k : ℕ) (d : X) (e : Y) → k < length xs → get_or (map f xs) k e ≡ f (get_or xs k d)
get_mapped f [] k d e within = absurd (omega arith)
get_mapped f (x ∷ xs) zero d e within = refl
get_mapped f (x ∷ xs) (suc k) d e within = get_mapped f xs k d e (omega arith)

-- The contents of the place with a number are the ones that the journal gives it.
seen_given : (j : Journal) (places : List Place) (k : ℕ) (d : Place) → ArePlacesOf j (map place_view places) → k < length places
    → place_view (get_or places k d) ≡ place_given j k
seen_given j places k d are within =
    let wide : length places ≡ 1024 = sym (length-map places place_view) ∙ given_wide j (map place_view places) are in
    sym (get_mapped place_view places k d None within) ∙ given_at j (map place_view places) k are (omega (arith, wide, within))

-- The result for a place that has the name is the result for the name in the journal.
lookup_given : (name : List ℕ) (j : Journal) (k : ℕ) (place : Option PlaceView) (lookup : Lookup) → place ≡ place_given j k
    → has_name name place ≡ true → IfSome place (λ view. IsLookup lookup view.state) → IsLookup lookup (state_of (acts_of name j))
lookup_given name j k place lookup is named here =
    elim (slice_get (names_of j) k) as (λ o. place ≡ option_map (λ (n : List ℕ). place_with n (state_of (acts_of n j))) o
    → IsLookup lookup (state_of (acts_of name j))) [
      | None ↦ λ none. let unnamed : has_name name place ≡ false = ap (has_name name) none in absurd (cc (named, unnamed))
      | Some n ↦ λ some.
          let same : n ≡ name = bytes_same n name (sym (ap (has_name name) some) ∙ named) in
          let there : IsLookup lookup (state_of (acts_of n j)) =
          subst (λ (p : Option PlaceView). IfSome p (λ (view : PlaceView). IsLookup lookup view.state)) some here in
          subst (λ (m : List ℕ). IsLookup lookup (state_of (acts_of m j))) same there
    ] is

-- The place that has the name has the name's number in the journal.
number_given : (name : List ℕ) (j : Journal) (k : ℕ) (place : Option PlaceView) → place ≡ place_given j k
    → has_name name place ≡ true → slice_get (names_of j) k ≡ Some name
number_given name j k place is named =
    elim (slice_get (names_of j) k) as (λ o. place ≡ option_map (λ (n : List ℕ). place_with n (state_of (acts_of n j))) o → o ≡ Some name) [
      | None ↦ λ none. let unnamed : has_name name place ≡ false = ap (has_name name) none in absurd (cc (named, unnamed))
      | Some n ↦ λ some. ap (λ (m : List ℕ). Some m) (bytes_same n name (sym (ap (has_name name) some) ∙ named))
    ] is

-- The first place that has the name has the name's number in the journal.
pub number_at : (name : List ℕ) (j : Journal) (places : List Place) (k : ℕ) (d : Place)
    → position (λ place. has_name name (place_view place)) places ≡ Some k
    → ArePlacesOf j (map place_view places) → slice_get (names_of j) k ≡ Some name
number_at name j places k d first are =
    let some = position-Some (λ (place : Place). has_name name (place_view place)) places k d first in
    number_given name j k (place_view (get_or places k d)) (seen_given j places k d are some.0) some.1

-- The result for the first place that has the name is the result for the name in the journal.
pub lookup_at : (name : List ℕ) (j : Journal) (places : List Place) (k : ℕ) (d : Place) (lookup : Lookup)
    → position (λ place. has_name name (place_view place)) places ≡ Some k → IfSome (place_view (get_or places k d)) (λ view. IsLookup lookup view.state)
    → ArePlacesOf j (map place_view places) → IsLookup lookup (state_of (acts_of name j))
lookup_at name j places k d lookup first here are =
    let some = position-Some (λ (place : Place). has_name name (place_view place)) places k d first in
    lookup_given name j k (place_view (get_or places k d)) lookup (seen_given j places k d are some.0) some.1 here

-- A name in a list has a number there.
name_number : (name : List ℕ) (names : List (List ℕ)) → list_any (bytes_eq name) names ≡ true → (k : ℕ) × (slice_get names k ≡ Some name)
name_number name [] is = absurd (cc is)
name_number name (n ∷ ns) is =
    elim (bytes_eq name n) as (λ t. bytes_eq name n ≡ t → (t || list_any (bytes_eq name) ns) ≡ true → (k : ℕ) × (slice_get (n ∷ ns) k ≡ Some name)) [
      | true ↦ λ same later. (zero, ap (λ (m : List ℕ). Some m) (sym (bytes_same name n same)))
      | false ↦ λ apart later. let rest = name_number name ns later in (suc rest.0, rest.1)
    ] refl is

-- If no element is found before the end of a list, none passes the test.
none_before : {X : Type 0} (p : X → Bool) (xs : List X) (k : ℕ) (d : X)
    → nat_lt (position_or_len p xs) (length xs) ≡ false → k < length xs → p (get_or xs k d) ≡ false
none_before p [] k d late within = absurd (omega arith)
none_before p (x ∷ xs) zero d late within =
    elim (p x) as (λ t. nat_lt (cond (not t) (1 + position_or_len p xs) 0) (suc (length xs)) ≡ false → t ≡ false) [
      | true ↦ λ e. absurd (grind (arith, nat_tests, e))
      | false ↦ λ e. refl
    ] late
none_before p (x ∷ xs) (suc k) d late within =
    elim (p x) as (λ t. nat_lt (cond (not t) (1 + position_or_len p xs) 0) (suc (length xs)) ≡ false → p (get_or xs k d) ≡ false) [
      | true ↦ λ e. absurd (grind (arith, nat_tests, e))
      | false ↦ λ e. none_before p xs k d (grind (arith, nat_tests, e)) (omega arith)
    ] late

-- If `position` returns `None`, no element passes the test.
none_passes : {X : Type 0} (p : X → Bool) (xs : List X) (k : ℕ) (d : X) → position p xs ≡ None → k < length xs → p (get_or xs k d) ≡ false
none_passes p xs k d none =
    let at = position_or_len p xs in
    none_before p xs k d
    (elim (nat_lt at (length xs)) as (λ t. cond t (Some at) None ≡ None → t ≡ false) [ true ↦ λ e. absurd (cc e) | false ↦ λ e. refl ] none)

-- Each name of the journal has a place.
has_place : (name : List ℕ) (j : Journal) (places : List Place) → list_any (bytes_eq name) (names_of j) ≡ true
    → position (λ place. has_name name (place_view place)) places ≡ None → ArePlacesOf j (map place_view places) → ⊥
has_place name j places there none are =
    let at = name_number name (names_of j) there in
    let k : ℕ = at.0 in
    let wide : length places ≡ 1024 = sym (length-map places place_view) ∙ given_wide j (map place_view places) are in
    let below : k < length (names_of j) = slice_get_within (names_of j) k name at.1 in
    let few = are.few in
    let within : k < length places = omega (arith, below, few, wide) in
    let own : place_given j k ≡ Some (place_with name (state_of (acts_of name j))) =
    ap (option_map (λ (n : List ℕ). place_with n (state_of (acts_of n j)))) at.1 in
    let passes : has_name name (place_view (get_or places k Empty)) ≡ true =
    ap (has_name name) (seen_given j places k Empty are within ∙ own) ∙ (bytes_eq-Decides name name).1 refl in
    let fails = none_passes (λ (place : Place). has_name name (place_view place)) places k Empty none within in
    let wrong : false ≡ true = sym fails ∙ passes in
    cc

-- A name that no place has has no acts in the journal.
pub acts_nowhere : (name : List ℕ) (j : Journal) (places : List Place) → position (λ place. has_name name (place_view place)) places ≡ None
    → ArePlacesOf j (map place_view places) → acts_of name j ≡ []
acts_nowhere name j places none are =
    elim (list_any (bytes_eq name) (names_of j)) as (λ t. list_any (bytes_eq name) (names_of j) ≡ t → acts_of name j ≡ []) [
      | true ↦ λ there. absurd (has_place name j places there none are)
      | false ↦ λ absent. acts_of_absent name j absent
    ] refl
