-- Lookups in a tree give what `serde_json` finds in its value.
use Rattle.std.proofs.Common.{◌≡◌, ℕ, List, [], ◌∷◌, map, Bool, true, false, cond, is_some, Option, Some, None, option_map, option_and_then, refl, sym, ap, ◌∙◌}
use Rattle.std.specs.Prelude.{ℤ, Float, negsuc}
use Rattle.std.specs.Option.{unwrap_or}
use Rattle.json.specs.Json as json
use Rattle.json.specs.Json.{Json}
use Rattle.json.specs.Find as finds
use Rattle.json.specs.Value.{items_view}
use Rattle.fast_float.specs.Text.{Parts}
use Rattle.serde_json.specs.Data.{Num, float, item, negative}
use Rattle.serde_json.specs.Read.{number_of, number_from}
use Rattle.serde_json.specs.Find.{get, as_str, as_number, as_u64, as_null}
use Rattle.serde_json.specs.View.{items_of}
use Rattle.tfs_json.specs.Tree.{tree_data, items_data, Tree, tree_view}
use Rattle.tfs_json.proofs.Looking.{get-tree}

-- The text of a tree is the text of its value.
pub as_str-tree : (j : Json) → as_str (tree_data j) ≡ finds.as_str j
as_str-tree json.null = refl
as_str-tree (json.boolean b) = refl
as_str-tree (json.number s) = refl
as_str-tree (json.string s) = refl
as_str-tree (json.array js) = refl
as_str-tree (json.object ms) = refl

-- The default for a missing number is not a whole number.
u64_or : (o : Option Num) → as_u64 (unwrap_or o (negative (negsuc 0))) ≡ option_and_then as_u64 o
u64_or None = refl
u64_or (Some n) = refl

-- The whole number of a tree is the whole number of its value.
pub as_u64-tree : (j : Json)
    → option_and_then as_u64 (as_number (tree_data j)) ≡ option_and_then (λ s. option_and_then as_u64 (number_of s)) (finds.as_number j)
as_u64-tree json.null = refl
as_u64-tree (json.boolean b) = refl
as_u64-tree (json.number s) = u64_or (number_of s)
as_u64-tree (json.string s) = refl
as_u64-tree (json.array js) = refl
as_u64-tree (json.object ms) = refl

-- A number with a minus sign is not an unsigned integer.
pub not_whole : (p : Parts) → option_and_then as_u64 (number_from true p) ≡ None
not_whole p = by _ _ _ _
  where
    by : (b c : Bool) (z : ℤ) (x : Float) → option_and_then as_u64 (cond b (Some (negative z)) (cond c (Some (float x)) None)) ≡ None
    by true c z x = refl
    by false true z x = refl
    by false false z x = refl

-- Mapping an option by two views in sequence is mapping by their composition.
twice_mapped : {R : Type 0} (seen : R → Json) (o : Option R) → option_map (λ v. tree_data (seen v)) o ≡ option_map tree_data (option_map seen o)
twice_mapped seen None = refl
twice_mapped seen (Some x) = refl

-- Looking up a name in a tree gives what `serde_json` finds in its value.
pub find-tree : {R : Type 0} (seen : R → Json) (r : Option R) (name : List ℕ) (j : Json) → option_map seen r ≡ finds.get name j
    → option_map (λ v. tree_data (seen v)) r ≡ get name (tree_data j)
find-tree seen r name j e = twice_mapped seen r ∙ ap (option_map tree_data) e ∙ sym (get-tree name j)

-- A tree is null if and only if its value is.
pub null-tree : (j : Json) → is_some (as_null (tree_data j)) ≡ finds.is_null j
null-tree json.null = refl
null-tree (json.boolean b) = refl
null-tree (json.number s) = refl
null-tree (json.string s) = refl
null-tree (json.array js) = refl
null-tree (json.object ms) = refl

-- The elements of a tree's value are the values of its elements.
pub items_view-data : (vs : List Tree) → items_of (map tree_view vs) ≡ items_data (items_view vs)
items_view-data [] = refl
items_view-data (v ∷ vs) = ap (item (tree_view v)) (items_view-data vs)
