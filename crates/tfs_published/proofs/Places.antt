-- Lemmas about the places that a journal gives, and how one more entry changes them.
use Rattle.std.proofs.Common.{◌≡◌, ◌≢◌, ℕ, zero, suc, ◌+◌, ◌<◌, ◌≤◌, nat_eq, true, false, List, [], ◌∷◌, ◌++◌, length, map, set, take}
use Rattle.std.proofs.Common.{get_or, slice_get}
use Rattle.std.proofs.Common.{Option, Some, None, option_map, refl, sym, ◌∙◌, ap, subst, arith, length-append}
use Rattle.std.specs.List.{list_any, range_with_len}
use Rattle.std.specs.Str.{bytes_eq}
use Rattle.std.proofs.lemmas.Bool.{eq-eqb, eqb-true}
use Rattle.std.proofs.lemmas.List.{length-map, length-set, get_or-set_same, get_or-set_other, map-append, take_all}
use Rattle.std.proofs.lemmas.List.FromFn.{length-map-range_with_len, get_or-map-range_with_len, take-map-range_with_len}
use Rattle.std.proofs.lemmas.List.FromFn.{map-range_with_len_more, fill_by_all}
use Rattle.std.proofs.lemmas.Option.{slice_get_within, get_or_from_slice_get}
use Rattle.tfs_rules.specs.History.{History, state_of}
use Rattle.tfs_records.specs.Journal.{EntryValue, Journal, with_entry, acts_of, names_of}
use Rattle.tfs_records.proofs.NameLemmas.{bytes_same}
use Rattle.tfs_records.proofs.JournalLemmas.{acts_of_other, names_kept, names_added, names_once}
use Rattle.tfs_published.specs.Place.{place_view}
use Rattle.tfs_published.specs.PlaceView.{place_with}
use Rattle.tfs_published.specs.Published.{place_given, ArePlacesOf}
use Rattle.tfs_published.specs.declared.place.Place.{Place}
use Rattle.tfs_published.specs.Token.{TokenValue}
use Rattle.tfs_published.specs.declared.view.CopyView.{CopyView}
use Rattle.tfs_published.specs.declared.view.PlaceView.{PlaceView}

-- Appending an element doesn't change the others.
get_unless_last : {A : Type 0} (xs : List A) (x : A) (i : ℕ) → i ≢ length xs → slice_get (xs ++ x ∷ []) i ≡ slice_get xs i
get_unless_last [] x zero apart = absurd (apart refl)
get_unless_last [] x (suc i) apart = refl
get_unless_last (y ∷ ys) x zero apart = refl
get_unless_last (y ∷ ys) x (suc i) apart = get_unless_last ys x i (λ same. apart (ap suc same))

-- The element after all others is the appended one.
get_last : {A : Type 0} (xs : List A) (x : A) → slice_get (xs ++ x ∷ []) (length xs) ≡ Some x
get_last [] x = refl
get_last (y ∷ ys) x = get_last ys x

-- A name has one number.
one_number : (j : Journal) (i k : ℕ) (name : List ℕ) → slice_get (names_of j) i ≡ Some name → slice_get (names_of j) k ≡ Some name → i ≡ k
one_number j i k name here there =
    let first = get_or_from_slice_get (names_of j) i name name here in
    let second = get_or_from_slice_get (names_of j) k name name there in
    let not_less : i < k → ⊥ = λ less. names_once j i k name less (slice_get_within (names_of j) k name there) (first ∙ sym second) in
    let not_more : k < i → ⊥ = λ more. names_once j k i name more (slice_get_within (names_of j) i name here) (second ∙ sym first) in
    omega arith

-- The number of a new name is the number of names before it.
new_number : (j : Journal) (e : EntryValue) (number : ℕ) → slice_get (names_of (with_entry j e)) number ≡ Some e.name
    → list_any (bytes_eq e.name) (names_of j) ≡ false → length (names_of j) ≡ number
new_number j e number at absent =
    let last : slice_get (names_of (with_entry j e)) (length (names_of j)) ≡ Some e.name =
    ap (λ (names : List (List ℕ)). slice_get names (length (names_of j))) (names_added j e absent) ∙ get_last (names_of j) e.name in
    one_number (with_entry j e) (length (names_of j)) number e.name last at

-- An entry doesn't change the names of other numbers.
pub names_elsewhere : (j : Journal) (e : EntryValue) (number i : ℕ) → slice_get (names_of (with_entry j e)) number ≡ Some e.name → i ≢ number
    → slice_get (names_of (with_entry j e)) i ≡ slice_get (names_of j) i
names_elsewhere j e number i at apart =
    elim (list_any (bytes_eq e.name) (names_of j)) as (λ t. list_any (bytes_eq e.name) (names_of j) ≡ t
    → slice_get (names_of (with_entry j e)) i ≡ slice_get (names_of j) i) [
      | true ↦ λ there. ap (λ (names : List (List ℕ)). slice_get names i) (names_kept j e there)
      | false ↦ λ absent.
          let same = new_number j e number at absent in
          ap (λ (names : List (List ℕ)). slice_get names i) (names_added j e absent)
          ∙ get_unless_last (names_of j) e.name i (λ is. apart (is ∙ same))
    ] refl

-- A name with another number isn't the entry's.
pub other_name : (j : Journal) (e : EntryValue) (number i : ℕ) (name : List ℕ) → slice_get (names_of (with_entry j e)) number ≡ Some e.name
    → slice_get (names_of (with_entry j e)) i ≡ Some name → i ≢ number → bytes_eq e.name name ≡ false
other_name j e number i name at there apart =
    let own : e.name ≡ name → ⊥ = λ same.
    apart (one_number (with_entry j e) i number e.name (there ∙ ap (λ (n : List ℕ). Some n) (sym same)) at) in
    elim (bytes_eq e.name name) as (λ t. bytes_eq e.name name ≡ t → t ≡ false) [
      | true ↦ λ same. absurd (own (bytes_same e.name name same))
      | false ↦ λ fails. refl
    ] refl

-- If the number of the entry's name is below 1,024, there are at most 1,024 names after the entry.
few_after : (j : Journal) (e : EntryValue) (number : ℕ) → slice_get (names_of (with_entry j e)) number ≡ Some e.name → number < 1024
    → length (names_of j) ≤ 1024 → length (names_of (with_entry j e)) ≤ 1024
few_after j e number at inside few =
    elim (list_any (bytes_eq e.name) (names_of j)) as (λ t. list_any (bytes_eq e.name) (names_of j) ≡ t → length (names_of (with_entry j e)) ≤ 1024) [
      | true ↦ λ there. subst (λ (names : List (List ℕ)). length names ≤ 1024) (sym (names_kept j e there)) few
      | false ↦ λ absent.
          let same = new_number j e number at absent in
          let more : length (names_of (with_entry j e)) ≡ length (names_of j) + 1 =
          ap length (names_added j e absent) ∙ length-append (names_of j) (e.name ∷ []) in
          omega (arith, more, same, inside)
    ] refl

-- An entry doesn't change the places of other numbers.
given_elsewhere : (j : Journal) (e : EntryValue) (number i : ℕ) → slice_get (names_of (with_entry j e)) number ≡ Some e.name → i ≢ number
    → place_given (with_entry j e) i ≡ place_given j i
given_elsewhere j e number i at apart =
    let names = names_elsewhere j e number i at apart in
    elim (slice_get (names_of j) i) as (λ o. slice_get (names_of j) i ≡ o → place_given (with_entry j e) i ≡ place_given j i) [
      | None ↦ λ none.
          let after : place_given (with_entry j e) i ≡ None =
          ap (option_map (λ (name : List ℕ). place_with name (state_of (acts_of name (with_entry j e))))) (names ∙ none) in
          let before : place_given j i ≡ None = ap (option_map (λ (name : List ℕ). place_with name (state_of (acts_of name j)))) none in
          after ∙ sym before
      | Some name ↦ λ some.
          let other = other_name j e number i name at (names ∙ some) apart in
          let after : place_given (with_entry j e) i ≡ Some (place_with name (state_of (acts_of name (with_entry j e)))) =
          ap (option_map (λ (n : List ℕ). place_with n (state_of (acts_of n (with_entry j e))))) (names ∙ some) in
          let before : place_given j i ≡ Some (place_with name (state_of (acts_of name j))) =
          ap (option_map (λ (n : List ℕ). place_with n (state_of (acts_of n j)))) some in
          after ∙ (ap (λ (h : History). Some (place_with name (state_of h))) (acts_of_other name j e other) ∙ sym before)
    ] refl

-- The place of the entry's number has its name, and the state after the entry.
given_here : (j : Journal) (e : EntryValue) (number : ℕ) → slice_get (names_of (with_entry j e)) number ≡ Some e.name
    → place_given (with_entry j e) number ≡ Some (place_with e.name (state_of (acts_of e.name (with_entry j e))))
given_here j e number at = ap (option_map (λ (n : List ℕ). place_with n (state_of (acts_of n (with_entry j e))))) at

-- A journal gives 1,024 places.
pub given_wide : (j : Journal) (places : List (Option PlaceView)) → ArePlacesOf j places → length places ≡ 1024
given_wide j places are = ap length are.each ∙ length-map-range_with_len (place_given j) 0 1024

-- Each place is the one that the journal gives its number.
pub given_at : (j : Journal) (places : List (Option PlaceView)) (i : ℕ) → ArePlacesOf j places → i < 1024 → get_or places i None ≡ place_given j i
given_at j places i are within =
    ap (λ (xs : List (Option PlaceView)). get_or xs i None) are.each ∙ get_or-map-range_with_len (place_given j) 0 1024 i i None within (omega arith)

-- If the place of the entry's number is set to its name and state, the places are those of the
-- journal with the entry.
pub places_after : (j : Journal) (e : EntryValue) (places : List (Option PlaceView)) (number : ℕ) (place : PlaceView) → ArePlacesOf j places
    → slice_get (names_of (with_entry j e)) number ≡ Some e.name → number < 1024
    → place ≡ place_with e.name (state_of (acts_of e.name (with_entry j e))) → ArePlacesOf (with_entry j e) (set places number (Some place))
places_after j e places number place are at inside is =
    let wide = given_wide j places are in record {
      few = few_after j e number at inside are.few;
      each = fill_by_all (place_given (with_entry j e)) (set places number (Some place)) 1024 None
          (length-set places number (Some place) ∙ wide) (λ i within.
          elim (nat_eq i number) as (λ t. nat_eq i number ≡ t → get_or (set places number (Some place)) i None ≡ place_given (with_entry j e) i) [
            | true ↦ λ yes.
                let same : i ≡ number = eqb-true i number yes in
                let put : get_or (set places number (Some place)) number None ≡ Some place =
                get_or-set_same places number (Some place) None (omega (arith, wide, inside)) in
                subst (λ (k : ℕ). get_or (set places number (Some place)) k None ≡ place_given (with_entry j e) k) (sym same)
                (put ∙ (ap (λ (p : PlaceView). Some p) is ∙ sym (given_here j e number at)))
            | false ↦ λ no.
                let apart : i ≢ number = λ same. let wrong : false ≡ true = sym no ∙ eq-eqb i number same in cc in
                get_or-set_other places number i (Some place) None apart
                ∙ (given_at j places i are within ∙ sym (given_elsewhere j e number i at apart))
          ] refl);
    }

-- Appending the place of the next number gives the places of the first numbers up to it.
pub one_place_more : (f : ℕ → Option PlaceView) (places new : List Place) (place : Place) (n : ℕ) → n < 1024 → new ≡ places ++ place ∷ []
    → map place_view places ≡ take n (map f (range_with_len 0 1024)) → place_view place ≡ f n
    → map place_view new ≡ take (n + 1) (map f (range_with_len 0 1024))
one_place_more f places new place n within is so_far next =
    ap (map place_view) is ∙ map-append place_view places (place ∷ [])
    ∙ ap (λ (xs : List (Option PlaceView)). xs ++ place_view place ∷ []) (so_far ∙ take-map-range_with_len f 0 1024 n (omega arith))
    ∙ ap (λ (p : Option PlaceView). map f (range_with_len 0 n) ++ p ∷ []) next
    ∙ sym (map-range_with_len_more f 0 n n (omega arith))
    ∙ sym (take-map-range_with_len f 0 1024 (n + 1) (omega arith))

-- After 1,024 numbers, all places are made.
pub all_places : (f : ℕ → Option PlaceView) (places : List Place) (n : ℕ) → 1024 ≤ n
    → map place_view places ≡ take n (map f (range_with_len 0 1024)) → map place_view places ≡ map f (range_with_len 0 1024)
all_places f places n past is =
    let wide = length-map-range_with_len f 0 1024 in
    is ∙ take_all n (map f (range_with_len 0 1024)) (omega (arith, wide, past))

-- There are 1,024 places.
pub as_many_places : (f : ℕ → Option PlaceView) (places : List Place) → map place_view places ≡ map f (range_with_len 0 1024) → length places ≡ 1024
as_many_places f places is = sym (length-map places place_view) ∙ (ap length is ∙ length-map-range_with_len f 0 1024)

-- A copy with these places, tokens and last token.
abbrev pub copy_with : List (Option PlaceView) → List (Option TokenValue) → TokenValue → CopyView
copy_with places since token = record { places = places; since = since; token = token }

-- Copies with equal parts are equal.
pub same_copy : (p q : List (Option PlaceView)) (m n : List (Option TokenValue)) (t u : TokenValue) → p ≡ q → m ≡ n → t ≡ u
    → copy_with p m t ≡ copy_with q n u
same_copy p q m n t u places since token =
    ap (λ (x : List (Option PlaceView)). copy_with x m t) places
    ∙ (ap (λ (x : List (Option TokenValue)). copy_with q x t) since ∙ ap (λ (x : TokenValue). copy_with q n x) token)
