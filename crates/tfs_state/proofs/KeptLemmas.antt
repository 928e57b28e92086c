-- A state reads the same from a whole value and from its kept part.
use Rattle.std.proofs.Common.{codes, nat_eq, ◌≡◌, ℕ, suc, List, [], ◌∷◌, map, is_some, if◌then◌else◌, Option, Some, None, Ok, Err, option_map, option_and_then, refl, sym, ap, ◌∙◌}
use Rattle.std.specs.Prelude.{Result}
use Rattle.std.specs.Option.{ok_or, option_or, option_eq}
use Rattle.json.specs.Json.{Json}
use Rattle.json.specs.Value.{value_view}
use Rattle.serde_json.specs.Data.{Data}
use Rattle.serde_json.specs.Find.{as_object, as_number, as_str, as_u64}
use Rattle.tfs_addr.specs.Address.{InstanceKey, by_number, by_text, stripped_text}
use Rattle.tfs_addr.specs.declared.resource.Mode.{Mode}
use Rattle.tfs_json.specs.Json.{json_value, text_at, member_at, list_at}
use Rattle.tfs_json.specs.Kept.{SpellsKept}
use Rattle.tfs_json.specs.Tree.{Tree, tree_data, tree_view}
use Rattle.tfs_json.proofs.Looking.{as_str-pruned, as_number-pruned, kept_of}
use Rattle.tfs_json.proofs.Alike.{kept_data, as_object-pruned, member_of, list_of, same_member, same_optional_text, same_text, same_whole_number, list_at-tree, list_at-kept}
use Rattle.tfs_state.specs.Document.{Instance}
use Rattle.tfs_state.specs.Resources.{result_and_then, result_map, read_each, filled_text, path_text, dependency_of, read_dependency, key_given, deposed_of, InstanceMembers, own_of, instance_members, Own, read_instance, mode_named, path_of, ResourceMembers, resource_members, resource_of, instance_of, read_resource, read_resources, joined}
use Rattle.tfs_state.specs.StateText.{version_of, serial_of, lineage_of, few_instances, instances_of, Content, content_of, text_content}
use Rattle.tfs_state.specs.declared.fault.StateFault.{StateFault}
use Rattle.tfs_state.specs.declared.fault.StateFault.TheVariants.{NotJson, Version, Serial, Lineage, Resource, Instance as InstanceFault, Dependency}

-- If each element reads the same from its kept part, so does the list.
same_each : {B F : Type 0} (read : ℕ → Data → Result B F) → ((i : ℕ) (j : Json) → read i (kept_data j) ≡ read i (tree_data j)) → (i : ℕ) (js : List Json)
    → read_each read i (map kept_data js) ≡ read_each read i (map tree_data js)
unfolding read_each
same_each read same i [] = refl
same_each read same i (j ∷ js) =
    ap (λ r. result_and_then (λ y. result_map (λ ys. y ∷ ys) r) (read i (kept_data j))) (same_each read same (suc i) js)
    ∙ ap (result_and_then (λ y. result_map (λ ys. y ∷ ys) (read_each read (suc i) (map tree_data js)))) (same i j)

-- A dependency reads the same from its kept part.
same_dependency : (i j k : ℕ) (x : Json) → read_dependency i j k (kept_data x) ≡ read_dependency i j k (tree_data x)
same_dependency i j k x = ap (λ s. ok_or (option_and_then path_text s) (Dependency i j k)) (as_str-pruned x)

-- The key of an instance reads the same from its kept part.
key_of_value : (x : Json) → key_given (Some (kept_data x)) ≡ key_given (Some (tree_data x))
key_of_value x =
    ap (λ n. option_or (option_map (λ n. Some (by_number n)) (option_and_then as_u64 n))
    (option_map (λ text. Some (by_text text)) (as_str (kept_data x)))) (as_number-pruned x)
    ∙ ap (λ s. option_or (option_map (λ n. Some (by_number n)) (option_and_then as_u64 (as_number (tree_data x))))
    (option_map (λ text. Some (by_text text)) s)) (as_str-pruned x)

-- An optional instance key reads the same from the kept part.
same_key : (x : Json) → key_given (member_at (codes "index_key") (kept_data x)) ≡ key_given (member_at (codes "index_key") (tree_data x))
same_key x = same_member key_given key_of_value (codes "index_key") x refl

-- A deposed key reads the same from the kept part.
same_deposed : (x : Json) → deposed_of (kept_data x) ≡ deposed_of (tree_data x)
same_deposed x = ap (option_map (option_and_then filled_text)) (same_optional_text (codes "deposed") x refl)

-- The result depends only on whether the option has a value.
then_const : {A B C : Type 0} (o : Option A) (p : Option B) (x : Option C) → is_some o ≡ is_some p → option_and_then (λ _. x) o ≡ option_and_then (λ _. x) p
then_const None None x e = refl
then_const None (Some b) x e = cc
then_const (Some a) None x e = cc
then_const (Some a) (Some b) x e = refl

-- The own members of an instance.
abbrev members_with : Option InstanceKey → Option (List ℕ) → List Data → InstanceMembers
members_with key deposed dependencies = record { key = key; deposed = deposed; dependencies = dependencies }

-- The own members of an instance, if each of them is valid.
abbrev given_members : Option (Option InstanceKey) → Option (Option (List ℕ)) → Option (List Data) → Option InstanceMembers
given_members key deposed list = option_and_then (λ k. option_and_then (λ d. option_map (members_with k d) list) deposed) key

-- The result of reading an instance with these members of its own.
abbrev read_members : ℕ → ℕ → Option InstanceMembers → Result Own StateFault
read_members i j members =
    result_and_then (λ m. result_map (own_of m) (read_each (read_dependency i j) 0 m.dependencies)) (ok_or members (InstanceFault i j))

module _ (i j : ℕ) where
  -- For one set of own members, an instance reads the same from kept parts and from whole values.
  same_members : (key : Option (Option InstanceKey)) (deposed : Option (Option (List ℕ))) (list : Option (List Json))
      → read_members i j (given_members key deposed (option_map (map kept_data) list))
      ≡ read_members i j (given_members key deposed (option_map (map tree_data) list))
  same_members None deposed list = refl
  same_members (Some k) None list = refl
  same_members (Some k) (Some d) None = refl
  same_members (Some k) (Some d) (Some xs) =
      ap (result_map (λ ds. record { key = k; deposed = d; dependencies = ds })) (same_each (read_dependency i j) (same_dependency i j) 0 xs)

  -- An instance reads the same from its kept part.
  same_instance : (x : Json) → read_instance i j (kept_data x) ≡ read_instance i j (tree_data x)
  same_instance x =
      let idx = key_given (member_at (codes "index_key") (tree_data x)) in
      let dep = deposed_of (tree_data x) in
      let list = list_of (member_of (codes "dependencies") x) in
      ap (read_members i j) (then_const (as_object (kept_data x)) (as_object (tree_data x))
      (given_members (key_given (member_at (codes "index_key") (kept_data x))) (deposed_of (kept_data x))
      (list_at (codes "dependencies") (kept_data x))) (as_object-pruned x)
      ∙ ap (λ k. option_and_then (λ _. given_members k (deposed_of (kept_data x)) (list_at (codes "dependencies") (kept_data x)))
      (as_object (tree_data x))) (same_key x)
      ∙ ap (λ d. option_and_then (λ _. given_members idx d (list_at (codes "dependencies") (kept_data x))) (as_object (tree_data x))) (same_deposed x)
      ∙ ap (λ l. option_and_then (λ _. given_members idx dep l) (as_object (tree_data x))) (list_at-kept (codes "dependencies") x refl))
      ∙ there (as_object (tree_data x)) idx dep list
      ∙ ap (λ l. read_members i j (option_and_then (λ _. given_members idx dep l) (as_object (tree_data x)))) (sym (list_at-tree (codes "dependencies") x))
    where
      there : {A : Type 0} (o : Option A) (key : Option (Option InstanceKey)) (deposed : Option (Option (List ℕ))) (list : Option (List Json))
          → read_members i j (option_and_then (λ _. given_members key deposed (option_map (map kept_data) list)) o)
          ≡ read_members i j (option_and_then (λ _. given_members key deposed (option_map (map tree_data) list)) o)
      there None key deposed list = refl
      there (Some a) key deposed list = same_members key deposed list

-- The own members of a resource.
abbrev resource_with : List ℕ → Mode → List ℕ → List ℕ → List Data → ResourceMembers
resource_with path mode kind name instances = record { path = path; mode = mode; kind = kind; name = name; instances = instances }

-- The own members of a resource, if each of them is valid.
abbrev given_resource : Option (List ℕ) → Option Mode → Option (List ℕ) → Option (List ℕ) → Option (List Data) → Option ResourceMembers
given_resource path mode kind name list =
    option_and_then (λ p. option_and_then (λ m. option_and_then (λ k. option_and_then (λ n. option_map (resource_with p m k n) list) name) kind) mode) path

-- The instances of a resource with these members of its own.
abbrev read_given : ℕ → Option ResourceMembers → Result (List Instance) StateFault
read_given i members =
    result_and_then (λ r. result_map (map (instance_of r)) (read_each (read_instance i) 0 r.instances))
    (ok_or (option_and_then (λ r. option_map (λ _. r) (stripped_text r.path)) members) (Resource i))

-- The instances of a resource, if its module path can be stripped.
abbrev read_path : {A : Type 0} → ℕ → Option A → ResourceMembers → Result (List Instance) StateFault
read_path i stripped r =
    result_and_then (λ r. result_map (map (instance_of r)) (read_each (read_instance i) 0 r.instances)) (ok_or (option_map (λ _. r) stripped) (Resource i))

module _ (i : ℕ) where
  -- For one module path, the instances read the same from kept parts and from whole values.
  same_path : {A : Type 0} (stripped : Option A) (p : List ℕ) (m : Mode) (k n : List ℕ) (xs : List Json)
      → read_path i stripped (resource_with p m k n (map kept_data xs)) ≡ read_path i stripped (resource_with p m k n (map tree_data xs))
  same_path None p m k n xs = refl
  same_path (Some a) p m k n xs =
      ap (result_map (map (instance_of (resource_with p m k n (map tree_data xs))))) (same_each (read_instance i) (same_instance i) 0 xs)

  -- For one set of own members, the instances read the same from kept parts and from whole values.
  same_given : (path : Option (List ℕ)) (mode : Option Mode) (kind name : Option (List ℕ)) (list : Option (List Json))
      → read_given i (given_resource path mode kind name (option_map (map kept_data) list))
      ≡ read_given i (given_resource path mode kind name (option_map (map tree_data) list))
  same_given None mode kind name list = refl
  same_given (Some p) None kind name list = refl
  same_given (Some p) (Some m) None name list = refl
  same_given (Some p) (Some m) (Some k) None list = refl
  same_given (Some p) (Some m) (Some k) (Some n) None = refl
  same_given (Some p) (Some m) (Some k) (Some n) (Some xs) = same_path (stripped_text p) p m k n xs

  -- A resource reads the same from its kept part.
  same_resource : (x : Json) → read_resource i (kept_data x) ≡ read_resource i (tree_data x)
  same_resource x =
      let p = path_of (tree_data x) in
      let m = λ (d : Data). option_and_then mode_named (text_at (codes "mode") d) in
      let k = λ (d : Data). option_and_then filled_text (text_at (codes "type") d) in
      let n = λ (d : Data). option_and_then filled_text (text_at (codes "name") d) in
      let a = kept_data x in
      let b = tree_data x in
      ap (λ o. read_given i (given_resource o (m a) (k a) (n a) (list_at (codes "instances") a))) (same_path_of x)
      ∙ ap (λ o. read_given i (given_resource p (option_and_then mode_named o) (k a) (n a) (list_at (codes "instances") a))) (same_text (codes "mode") x refl)
      ∙ ap (λ o. read_given i (given_resource p (m b) (option_and_then filled_text o) (n a) (list_at (codes "instances") a))) (same_text (codes "type") x refl)
      ∙ ap (λ o. read_given i (given_resource p (m b) (k b) (option_and_then filled_text o) (list_at (codes "instances") a))) (same_text (codes "name") x refl)
      ∙ ap (λ l. read_given i (given_resource p (m b) (k b) (n b) l)) (list_at-kept (codes "instances") x refl)
      ∙ same_given p (m b) (k b) (n b) (list_of (member_of (codes "instances") x))
      ∙ ap (λ l. read_given i (given_resource p (m b) (k b) (n b) l)) (sym (list_at-tree (codes "instances") x))
    where
      same_path_of : (x : Json) → path_of (kept_data x) ≡ path_of (tree_data x)
      same_path_of x = rw (same_optional_text (codes "module") x refl) refl

-- The resources read the same from their kept parts.
same_list : (list : Option (List Json))
    → result_and_then read_resources (ok_or (option_map (map kept_data) list) (Resource 0))
    ≡ result_and_then read_resources (ok_or (option_map (map tree_data) list) (Resource 0))
same_list None = refl
same_list (Some xs) = ap (result_map joined) (same_each read_resource same_resource 0 xs)

-- The instances of a value read the same from its kept part.
same_instances : (x : Json) → instances_of (kept_data x) ≡ instances_of (tree_data x)
unfolding instances_of
same_instances x =
    ap (λ l. result_and_then few_instances (result_and_then read_resources (ok_or l (Resource 0)))) (list_at-kept (codes "resources") x refl)
    ∙ ap (result_and_then few_instances) (same_list (list_of (member_of (codes "resources") x)))
    ∙ ap (λ l. result_and_then few_instances (result_and_then read_resources (ok_or l (Resource 0)))) (sym (list_at-tree (codes "resources") x))

-- The content of a state, from the result for each of its members.
abbrev content_by : Option ℕ → Option ℕ → Option (List ℕ) → Result (List Instance) StateFault → Result Content StateFault
content_by version serial lineage instances = if option_eq nat_eq version (Some 4)
    then result_and_then (λ serial.
    result_and_then (λ lineage.
    result_map (λ instances. record { serial = serial; lineage = lineage; instances = instances })
    instances)
    (ok_or lineage Lineage))
    (ok_or serial Serial)
    else Err Version

-- The content of a value is the content of its kept part.
pub same_content : (x : Json) → content_of (kept_data x) ≡ content_of (tree_data x)
unfolding content_of
same_content x =
    let a = kept_data x in
    let b = tree_data x in
    ap (λ o. content_by o (serial_of a) (lineage_of a) (instances_of a)) (same_whole_number (codes "version") x refl)
    ∙ ap (λ o. content_by (version_of b) o (lineage_of a) (instances_of a)) (same_whole_number (codes "serial") x refl)
    ∙ ap (λ o. content_by (version_of b) (serial_of b) (option_and_then filled_text o) (instances_of a)) (same_text (codes "lineage") x refl)
    ∙ ap (content_by (version_of b) (serial_of b) (lineage_of b)) (same_instances x)

-- The content of a text is the content of the kept part of its value.
pub content_kept : (bytes : List ℕ) (tree : Tree) → SpellsKept bytes (value_view tree) → text_content bytes ≡ content_of (tree_view tree)
content_kept bytes tree s =
    let w = kept_of bytes (value_view tree) s in
    ap (λ o. result_and_then content_of (ok_or o NotJson)) w.1 ∙ sym (same_content w.0) ∙ ap (λ t. content_of (tree_data t)) (sym w.2)
