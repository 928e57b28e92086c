-- Looking up a name in a tree gives the same as in the value that `serde_json` reads, and the kept
-- part has the same value at each kept name.
use Rattle.std.proofs.Common.{◌≡◌, ℕ, List, Bool, true, false, cond, is_some, Option, Some, None, option_map, option_and_then, refl, sym, ap, subst, ◌∙◌}
use Rattle.std.specs.Prelude.{⊤, negsuc}
use Rattle.std.specs.Option.{unwrap_or}
use Rattle.std.specs.Str.{bytes_eq}
use Rattle.std.specs.Cmp.Lexicographic.{bytes_decides}
use Rattle.json.specs.Json as json
use Rattle.json.specs.Json.{Json}
use Rattle.json.specs.Find.{later_or}
use Rattle.json.specs.Find as finds
use Rattle.serde_json.specs.Data.{Data, array, object, number, item, Members, no_members, put, negative}
use Rattle.serde_json.specs.Read.{number_of, of_json, of_items, of_members}
use Rattle.serde_json.specs.Find.{get, get_member, as_str, as_number}
use Rattle.serde_json.proofs.Views.{get_member-put, get_member-put_other}
use Rattle.tfs_json.specs.Kept.{is_wanted, with_member, kept, kept_items, kept_members, SpellsKept}
use Rattle.tfs_json.specs.Json.{json_value}
use Rattle.tfs_json.specs.Tree.{tree_data, items_data, members_data}
use Rattle.tfs_json.proofs.Spelling.{same_some}

-- The value of the option, if it has one, is a.
abbrev Is : {A : Type 0} → Option A → A → Type 0
Is None a = ⊤
Is (Some x) a = x ≡ a

-- `Is` is kept by mapping the option and the value.
is_map : {A B : Type 0} (f : A → B) (o : Option A) (a : A) → Is o a → Is (option_map f o) (f a)
is_map f None a e = tt
is_map f (Some x) a e = ap f e

-- `Is` is kept by a function that may give no value.
is_then : {A B : Type 0} (f : A → Option B) (o : Option A) (a : A) (b : B) → Is o a → Is (f a) b → Is (option_and_then f o) b
is_then f None a b e h = tt
is_then f (Some x) a b e h = subst (λ y. Is (f y) b) (sym e) h

-- `Is` holds for an option mapped to a constant.
is_const : {A B : Type 0} (b : B) (o : Option A) → Is (option_map (λ _. b) o) b
is_const b None = tt
is_const b (Some x) = refl

-- `Is` holds for the option's value or any default.
is_self : {A : Type 0} (o : Option A) (d : A) → Is o (unwrap_or o d)
is_self None d = tt
is_self (Some x) d = refl

-- If `serde_json` reads a value, it is the tree's value.
mutual
  is_tree : (j : Json) → Is (of_json j) (tree_data j)
  is_tree json.null = refl
  is_tree (json.boolean b) = refl
  is_tree (json.number s) = is_map number (number_of s) _ (is_self (number_of s) (negative (negsuc 0)))
  is_tree (json.string s) = refl
  is_tree (json.array js) = is_map array (of_items js) (items_data js) (are_items js)
  is_tree (json.object ms) = is_map object (of_members ms no_members) (members_data ms no_members) (are_members ms no_members)

  are_items : (js : json.Items) → Is (of_items js) (items_data js)
  are_items json.no_items = refl
  are_items (json.item j js) =
      is_then (λ d. option_map (item d) (of_items js)) (of_json j) (tree_data j) _ (is_tree j)
      (is_map (item (tree_data j)) (of_items js) (items_data js) (are_items js))

  are_members : (ms : json.Members) (found : Members) → Is (of_members ms found) (members_data ms found)
  are_members json.no_members found = refl
  are_members (json.member k j ms) found =
      is_then (λ d. of_members ms (put k d found)) (of_json j) (tree_data j) _ (is_tree j) (are_members ms (put k (tree_data j) found))

-- The kept part of a value, whether or not its numbers are in range.
abbrev mutual
  pub pruned : Json → Json
  pruned json.null = json.null
  pruned (json.boolean b) = json.boolean b
  pruned (json.number s) = json.number s
  pruned (json.string s) = json.string s
  pruned (json.array js) = json.array (pruned_items js)
  pruned (json.object ms) = json.object (pruned_members ms)

  pub pruned_items : json.Items → json.Items
  pruned_items json.no_items = json.no_items
  pruned_items (json.item j js) = json.item (pruned j) (pruned_items js)

  pub pruned_members : json.Members → json.Members
  pruned_members json.no_members = json.no_members
  pruned_members (json.member k j ms) = with_member (is_wanted k) k (pruned j) (pruned_members ms)

-- If a value has a kept part, it is the value without the other members.
mutual
  is_pruned : (j : Json) → Is (kept j) (pruned j)
  is_pruned json.null = refl
  is_pruned (json.boolean b) = refl
  is_pruned (json.number s) = is_const (json.number s) (number_of s)
  is_pruned (json.string s) = refl
  is_pruned (json.array js) = is_map json.array (kept_items js) (pruned_items js) (are_pruned_items js)
  is_pruned (json.object ms) = is_map json.object (kept_members ms) (pruned_members ms) (are_pruned_members ms)

  are_pruned_items : (js : json.Items) → Is (kept_items js) (pruned_items js)
  are_pruned_items json.no_items = refl
  are_pruned_items (json.item j js) =
      is_then (λ d. option_map (json.item d) (kept_items js)) (kept j) (pruned j) _ (is_pruned j)
      (is_map (json.item (pruned j)) (kept_items js) (pruned_items js) (are_pruned_items js))

  are_pruned_members : (ms : json.Members) → Is (kept_members ms) (pruned_members ms)
  are_pruned_members json.no_members = refl
  are_pruned_members (json.member k j ms) =
      is_then (λ d. option_map (with_member (is_wanted k) k d) (kept_members ms)) (kept j) (pruned j) _ (is_pruned j)
      (is_map (with_member (is_wanted k) k (pruned j)) (kept_members ms) (pruned_members ms) (are_pruned_members ms))

-- The first of two options that has a value.
abbrev later : Option Data → Option Data → Option Data
later None e = e
later (Some d) e = Some d

-- The first option, if the second has no value.
later_none : (o : Option Data) → later o None ≡ o
later_none None = refl
later_none (Some d) = refl

-- After a member is put into an object, its name has the new value, and every other name its old
-- one.
put_at : (b : Bool) (name k : List ℕ) (d : Data) (ms : Members) → bytes_eq k name ≡ b → get_member name (put k d ms) ≡ cond b (Some d) (get_member name ms)
put_at true name k d ms e = subst (λ n. get_member n (put k d ms) ≡ Some d) ((bytes_decides k name).0 e) (get_member-put k d ms)
put_at false name k d ms e = get_member-put_other name k d ms (λ same. differ (e ∙ refl) ((bytes_decides k name).1 (sym same)))
  where
    differ : {b : Bool} → b ≡ false → b ≡ true → ⊥
    differ n y = cc

-- One member more: looking up a name gives the same by `serde_json` and by `json`.
turn : (b : Bool) (o : Option Json) (j : Json) (e : Option Data)
    → later (option_map tree_data o) (cond b (Some (tree_data j)) e) ≡ later (option_map tree_data (later_or o (cond b (Some j) None))) e
turn true None j e = refl
turn false None j e = refl
turn b (Some i) j e = refl

-- The member that `serde_json` finds in an object is the last one with the name.
last_member : (name : List ℕ) (ms : json.Members) (found : Members)
    → get_member name (members_data ms found) ≡ later (option_map tree_data (finds.get_member name ms)) (get_member name found)
last_member name json.no_members found = refl
last_member name (json.member k j ms) found =
    last_member name ms (put k (tree_data j) found)
    ∙ ap (later (option_map tree_data (finds.get_member name ms))) (put_at (bytes_eq k name) name k (tree_data j) found refl)
    ∙ turn (bytes_eq k name) (finds.get_member name ms) j (get_member name found)

-- Looking up a name by `serde_json` gives the value of what `json` finds.
pub get-tree : (name : List ℕ) (j : Json) → get name (tree_data j) ≡ option_map tree_data (finds.get name j)
get-tree name json.null = refl
get-tree name (json.boolean b) = refl
get-tree name (json.number s) = refl
get-tree name (json.string s) = refl
get-tree name (json.array js) = refl
get-tree name (json.object ms) = last_member name ms no_members ∙ later_none _

-- A kept member is looked up in the kept part as in the whole.
keep_turn : (b : Bool) (o : Option Json) (j : Json)
    → later_or (option_map pruned o) (cond b (Some (pruned j)) None) ≡ option_map pruned (later_or o (cond b (Some j) None))
keep_turn true None j = refl
keep_turn false None j = refl
keep_turn b (Some i) j = refl

-- A member with another name does not change the lookup.
drop_turn : (b : Bool) (o : Option Json) (j : Json) → b ≡ false → option_map pruned o ≡ option_map pruned (later_or o (cond b (Some j) None))
drop_turn true o j e = cc
drop_turn false None j e = refl
drop_turn false (Some i) j e = refl

-- A kept name differs from a name that isn't kept.
other_name : (b : Bool) (name k : List ℕ) → bytes_eq k name ≡ b → is_wanted name ≡ true → is_wanted k ≡ false → b ≡ false
other_name false name k e y n = refl
other_name true name k e y n = let same = ap is_wanted ((bytes_decides k name).0 e) in cc

-- One member more, kept or not, does not change the lookup of a kept name.
kept_member_if : (b : Bool) (name k : List ℕ) (j : Json) (ms : json.Members) → is_wanted name ≡ true → is_wanted k ≡ b
    → finds.get_member name (pruned_members ms) ≡ option_map pruned (finds.get_member name ms)
    → finds.get_member name (with_member b k (pruned j) (pruned_members ms)) ≡ option_map pruned (finds.get_member name (json.member k j ms))
kept_member_if true name k j ms y e later =
    ap (λ o. later_or o (cond (bytes_eq k name) (Some (pruned j)) None)) later ∙ keep_turn (bytes_eq k name) (finds.get_member name ms) j
kept_member_if false name k j ms y e later =
    later ∙ drop_turn (bytes_eq k name) (finds.get_member name ms) j (other_name (bytes_eq k name) name k refl y e)

-- Looking up a kept name among the kept members gives the kept part of the member.
kept_member : (name : List ℕ) (ms : json.Members) → is_wanted name ≡ true
    → finds.get_member name (pruned_members ms) ≡ option_map pruned (finds.get_member name ms)
kept_member name json.no_members y = refl
kept_member name (json.member k j ms) y = kept_member_if (is_wanted k) name k j ms y refl (kept_member name ms y)

-- Looking up a kept name in a kept part gives the kept part of the member.
pub get-pruned : (name : List ℕ) (j : Json) → is_wanted name ≡ true → finds.get name (pruned j) ≡ option_map pruned (finds.get name j)
get-pruned name json.null y = refl
get-pruned name (json.boolean b) y = refl
get-pruned name (json.number s) y = refl
get-pruned name (json.string s) y = refl
get-pruned name (json.array js) y = refl
get-pruned name (json.object ms) y = kept_member name ms y

-- The text of a value is the text of its kept part.
pub as_str-pruned : (j : Json) → as_str (tree_data (pruned j)) ≡ as_str (tree_data j)
as_str-pruned json.null = refl
as_str-pruned (json.boolean b) = refl
as_str-pruned (json.number s) = refl
as_str-pruned (json.string s) = refl
as_str-pruned (json.array js) = refl
as_str-pruned (json.object ms) = refl

-- The number of a value is the number of its kept part.
pub as_number-pruned : (j : Json) → as_number (tree_data (pruned j)) ≡ as_number (tree_data j)
as_number-pruned json.null = refl
as_number-pruned (json.boolean b) = refl
as_number-pruned (json.number s) = refl
as_number-pruned (json.string s) = refl
as_number-pruned (json.array js) = refl
as_number-pruned (json.object ms) = refl

-- If a function gives the same result for each kept part as for the value, it does so for an
-- optional value.
same_then : {A : Type 0} (f : Data → Option A) → ((j : Json) → f (tree_data (pruned j)) ≡ f (tree_data j)) → (o : Option Json)
    → option_and_then f (option_map tree_data (option_map pruned o)) ≡ option_and_then f (option_map tree_data o)
same_then f same None = refl
same_then f same (Some j) = same j

-- A function with this property gives the same result for a kept member of the kept part and of the
-- value.
pub same_at : {A : Type 0} (f : Data → Option A) → ((j : Json) → f (tree_data (pruned j)) ≡ f (tree_data j)) → (name : List ℕ) (j : Json)
    → is_wanted name ≡ true
    → option_and_then f (get name (tree_data (pruned j))) ≡ option_and_then f (get name (tree_data j))
same_at f same name j y =
    ap (option_and_then f) (get-tree name (pruned j) ∙ ap (option_map tree_data) (get-pruned name j y))
    ∙ same_then f same (finds.get name j)
    ∙ sym (ap (option_and_then f) (get-tree name j))

-- `Some` is injective.
some_is : {A : Type 0} (x y : A) → Some x ≡ Some y → x ≡ y
some_is x y e = cc

-- If an option has a value, the value for which `Is` holds is that value.
is_there : {A : Type 0} (o : Option A) (a b : A) → Is o a → o ≡ Some b → a ≡ b
is_there None a b i e = cc
is_there (Some x) a b i e = sym i ∙ some_is x b e

-- If bytes spell a tree, the tree is the kept part of their JSON value.
pub kept_of : (bytes : List ℕ) (tree : Json) → SpellsKept bytes tree → (j : Json) × (json_value bytes ≡ Some (tree_data j)) × (tree ≡ pruned j)
kept_of bytes tree s = (
  s.whole,
  s.spelled ∙ fits (of_json s.whole) (tree_data s.whole) (is_tree s.whole) (sym (same_some s.whole) ∙ ap is_some s.kept),
  sym (is_there (kept s.whole) (pruned s.whole) tree (is_pruned s.whole) s.kept),
)
  where
    fits : (o : Option Data) (d : Data) → Is o d → is_some o ≡ true → o ≡ Some d
    fits None d i e = cc
    fits (Some x) d i e = ap Some i
