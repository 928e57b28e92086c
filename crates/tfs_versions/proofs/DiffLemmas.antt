-- Lemmas about the instances and attributes of a state's text.
use Rattle.std.proofs.Common.{◌≡◌, ℕ, suc, ◌+◌, ◌<◌, List, [], ◌∷◌, ◌++◌, length, map, take, get_or, All, append_assoc, refl, ap, sym, ◌∙◌, arith}
use Rattle.std.proofs.lemmas.List.{length-append, map-append, take_more}
use Rattle.std.specs.Borrow.{Bor}
use Rattle.json.specs.Json.{Json}
use Rattle.std.specs.declared.alloc.Global.{Global}
use Rattle.std.proofs.lemmas.List.Elements.{All-nil, All-cons}
use Rattle.json.specs.declared.value.Value.{Value as value}
use Rattle.json.specs.Tree.{HasNumbers, ItemsHaveNumbers, MembersHaveNumbers}
use Rattle.json.specs.Value.{items_of, members_of, members_view, value_view}
use Rattle.tfs_state.specs.Document.{Document}
use Rattle.tfs_versions.specs.Diff.{InstanceValue, elements, named, instance_of, instances_from}

-- A JSON value in memory of the program.
abbrev pub Value : Type 0
Value = value Global

-- The elements of a list that was made from elements are these.
pub elements-items_of : (js : List Json) → elements (items_of js) ≡ js
elements-items_of [] = refl
elements-items_of (j ∷ js) = ap (λ more. j ∷ more) (elements-items_of js)

-- The members of an object that was made from members are these.
pub named-members_view : (ms : List (Bor (List ℕ) × Value)) → named (members_view ms) ≡ map (λ m. (m.0.now, value_view m.1)) ms
named-members_view [] = refl
named-members_view (m ∷ ms) = ap (λ more. (m.0.now, value_view m.1) ∷ more) (named-members_view ms)

-- The instances of two lists of objects, one after the other.
pub instances_from-append : (d : Document) (number : ℕ) (front back : List Json)
    → instances_from d number (front ++ back) ≡ instances_from d number front ++ instances_from d (number + length front) back
instances_from-append d number [] back = ap (λ n. instances_from d n back) (omega arith)
instances_from-append d number (j ∷ front) back =
    ap (λ more. instance_of d number j ∷ more)
    (instances_from-append d (number + 1) front back
    ∙ ap (λ n. instances_from d (number + 1) front ++ instances_from d n back) (omega arith))

-- There are as many instances as objects.
pub length-instances_from : (d : Document) (number : ℕ) (js : List Json) → length (instances_from d number js) ≡ length js
length-instances_from d number [] = refl
length-instances_from d number (j ∷ js) = ap suc (length-instances_from d (number + 1) js)

-- The numbers in a list's elements are valid.
pub items_numbers : (vs : List Value) → ItemsHaveNumbers (items_of (map value_view vs)) → All (λ v. HasNumbers (value_view v)) vs
items_numbers [] h = All-nil (λ v. HasNumbers (value_view v))
items_numbers (v ∷ vs) h = All-cons (λ w. HasNumbers (value_view w)) v vs h.0 (items_numbers vs h.1)

-- The numbers in an object's members are valid.
pub members_numbers : (ms : List (Bor (List ℕ) × Value)) → MembersHaveNumbers (members_of (map (λ m. (m.0, value_view m.1)) ms))
    → All (λ m. HasNumbers (value_view m.1)) ms
members_numbers [] h = All-nil (λ m. HasNumbers (value_view m.1))
members_numbers (m ∷ ms) h = All-cons (λ w. HasNumbers (value_view w.1)) m ms h.0 (members_numbers ms h.1)

-- One more instance, from its object.
pub instances_more : (d : Document) (before now : List InstanceValue) (js : List Json) (j : Json)
    → now ≡ before ++ instances_from d (length before) js
    → now ++ instance_of d (length now) j ∷ [] ≡ before ++ instances_from d (length before) (js ++ j ∷ [])
instances_more d before now js j is =
    let size : length now ≡ length before + length js =
    ap length is ∙ length-append before (instances_from d (length before) js) ∙ ap (λ n. length before + n) (length-instances_from d (length before) js) in
    let more = instances_from-append d (length before) js (j ∷ []) in
    ap (λ n. now ++ instance_of d n j ∷ []) size
    ∙ ap (λ l. l ++ instance_of d (length before + length js) j ∷ []) is
    ∙ append_assoc before (instances_from d (length before) js) (instance_of d (length before + length js) j ∷ [])
    ∙ ap (λ l. before ++ l) (sym more)

-- The instances of more objects.
pub instances_of_more : (d : Document) (now : List InstanceValue) (front back : List Json)
    → now ≡ instances_from d 0 front → now ++ instances_from d (length now) back ≡ instances_from d 0 (front ++ back)
instances_of_more d now front back is =
    let size : length now ≡ length front = ap length is ∙ length-instances_from d 0 front in
    let none : 0 + length front ≡ length front = omega arith in
    ap (λ n. now ++ instances_from d n back) size
    ∙ ap (λ l. l ++ instances_from d (length front) back) is
    ∙ ap (λ n. instances_from d 0 front ++ instances_from d n back) (sym none)
    ∙ sym (instances_from-append d 0 front back)

-- One more element, under a function.
pub map_more : {X Y : Type 0} (f : X → Y) (xs : List X) (i : ℕ) (x : X) → i < length xs → x ≡ get_or xs i x
    → map f (take (i + 1) xs) ≡ map f (take i xs) ++ f x ∷ []
map_more f xs i x less is =
    ap (map f) (take_more xs i x less)
    ∙ map-append f (take i xs) (get_or xs i x ∷ [])
    ∙ ap (λ y. map f (take i xs) ++ f y ∷ []) (sym is)
