-- Lemmas about specs/Plan.antt.
use Rattle.std.proofs.Common.{◌≡◌, ℕ, suc, ◌+◌, ◌<◌, ◌≤◌, List, [], ◌∷◌, ◌++◌, length, map, take, drop, get_or, Option, Some, None, refl, sym, ap, subst, ◌∙◌, arith, add-zero, append_assoc}
use Rattle.std.proofs.lemmas.List.{take_more, map-append, length-take-le, take-append-drop}
use Rattle.std.proofs.Math.ListN.{length-map}
use Rattle.serde_json.specs.Data.{Data, Items}
use Rattle.serde_json.specs.View.{view, items_of, items_view}
use Rattle.serde_json.specs.declared.value.Value.{Value}
use Rattle.std.specs.Prelude.{Bool, true, false, if◌then◌else◌}
use Rattle.std.specs.Str.{IsUtf8, is_utf8}
use Rattle.std.proofs.lemmas.Str.{IsUtf8-from_is_utf8}
use Rattle.serde_json.specs.Read.{read}
use Rattle.tfs_json.specs.Json.{elements_of, json_value}
use Rattle.tfs_state.proofs.ListLemmas.{zip_push}
use Rattle.tfs_plan.specs.Plan.{ChangeValue, IsChangeOf, AreChanges, action_in, change_fault, first_fault, value_fault, plan_fault}
use Rattle.tfs_plan.specs.declared.fault.PlanFault.{PlanFault}
use Rattle.tfs_plan.specs.declared.fault.PlanFault.TheVariants.{NotJson}

-- Three words or more name no action.
pub no_action : (words : List Value) → 3 ≤ length words → None ≡ action_in (items_view words)
no_action [] long = absurd (omega arith)
no_action (a ∷ []) long = absurd (omega arith)
no_action (a ∷ b ∷ []) long = absurd (omega arith)
no_action (a ∷ b ∷ c ∷ more) long = refl

-- The elements of a list are the list.
pub elements_of_list : (values : List Data) → elements_of (items_of values) ≡ values
elements_of_list [] = refl
elements_of_list (value ∷ values) = ap (λ vs. value ∷ vs) (elements_of_list values)

module _ (names : List (List ℕ)) where
  -- A value that describes a change has no fault.
  faultless : (i : ℕ) (value : Data) (c : ChangeValue) → IsChangeOf names value c → change_fault i value ≡ None
  faultless i value c is = rw (is.address, is.previous, is.keyed, is.action) refl

  -- The first fault is that of the first value that describes no change.
  stops : (i : ℕ) (values : List Data) (changes : List ChangeValue) (value : Data) (more : List Data) (fault : PlanFault)
      → AreChanges names values changes → change_fault (i + length values) value ≡ Some fault
      → first_fault i (values ++ value ∷ more) ≡ Some fault
  unfolding first_fault
  stops i [] [] value more fault are is =
      let now : change_fault i value ≡ Some fault = ap (λ n. change_fault n value) (sym (add-zero i)) ∙ is in
      rw now refl
  stops i [] (c ∷ changes) value more fault are is = absurd are
  stops i (v ∷ values) [] value more fault are is = absurd are
  stops i (v ∷ values) (c ∷ changes) value more fault are is =
      let later : change_fault (suc i + length values) value ≡ Some fault =
      ap (λ n. change_fault n value) (let same : suc i + length values ≡ i + suc (length values) = omega arith in same) ∙ is in
      rw (faultless i v c are.0) (stops (suc i) values changes value more fault are.1 later)

  module _ (list : List Value) (k : ℕ) (x : Value) (changes : List ChangeValue) where
    -- The prefix that includes element k is the prefix before it followed by the element.
    longer : k < length list → x ≡ get_or list k x → map view (take (k + 1) list) ≡ map view (take k list) ++ view x ∷ []
    longer low is = ap (map view) (take_more list k x low ∙ ap (λ z. take k list ++ z ∷ []) (sym is)) ∙ map-append view (take k list) (x ∷ [])

    -- One more change is read.
    pub changes_more : (c : ChangeValue) → k < length list → x ≡ get_or list k x → AreChanges names (map view (take k list)) changes
        → IsChangeOf names (view x) c → AreChanges names (map view (take (k + 1) list)) (changes ++ c ∷ [])
    changes_more c low is are own =
        subst (λ (values : List Data). AreChanges names values (changes ++ c ∷ [])) (sym (longer low is))
        (zip_push (IsChangeOf names) (map view (take k list)) changes (view x) c are own)

    -- If an element describes no change, the list has its fault.
    pub changes_stop : (fault : PlanFault) → k < length list → x ≡ get_or list k x → AreChanges names (map view (take k list)) changes
        → change_fault k (view x) ≡ Some fault → first_fault 0 (map view list) ≡ Some fault
    changes_stop fault low is are own =
        let split : map view list ≡ map view (take k list) ++ view x ∷ map view (drop (k + 1) list) =
        ap (map view) (sym (take-append-drop (k + 1) list)) ∙ map-append view (take (k + 1) list) (drop (k + 1) list)
        ∙ ap (λ zs. zs ++ map view (drop (k + 1) list)) (longer low is)
        ∙ append_assoc (map view (take k list)) (view x ∷ []) (map view (drop (k + 1) list)) in
        let so_far : length (map view (take k list)) ≡ k = length-map (take k list) view ∙ length-take-le k list (omega arith) in
        let here : change_fault (0 + length (map view (take k list))) (view x) ≡ Some fault =
        ap (λ n. change_fault n (view x)) (let same : 0 + length (map view (take k list)) ≡ k = omega (arith, so_far) in same) ∙ own in
        ap (first_fault 0) split ∙ stops 0 (map view (take k list)) changes (view x) (map view (drop (k + 1) list)) fault are here

-- Bytes have no value if they are no JSON text whenever they are UTF-8.
pub no_value : (bytes : List ℕ) → (IsUtf8 bytes → read bytes ≡ None) → json_value bytes ≡ None
no_value bytes unread =
    elim (is_utf8 bytes) as (λ b. is_utf8 bytes ≡ b → (if b then read bytes else None) ≡ None) [
      | true ↦ λ is. unread (IsUtf8-from_is_utf8 bytes is)
      | false ↦ λ is. refl
    ] refl

-- Bytes without a value have the first fault.
pub not_json : (bytes : List ℕ) → json_value bytes ≡ None → plan_fault bytes ≡ Some NotJson
not_json bytes is = rw is refl

-- The fault of bytes with a value is that of the value.
pub fault_of_value : (bytes : List ℕ) (value : Data) → json_value bytes ≡ Some value → plan_fault bytes ≡ value_fault value
fault_of_value bytes value is = rw is refl
