-- The resources of a state's value, level by level, and the first fault of invalid ones.
use Rattle.std.specs.Prelude.{ℕ, suc, List, [], ◌∷◌, flat_map, codes, if◌then◌else◌, map, Option, Some, None, option_and_then, option_map, Result, Ok, Err}
use Rattle.std.specs.Option.{ok_or, option_or}
use Rattle.std.specs.Str.{bytes_eq}
use Rattle.serde_json.specs.Data.{Data}
use Rattle.serde_json.specs.Find.{as_str, as_number, as_u64, as_object}
use Rattle.tfs_json.specs.Json.{text_at, member_at, optional_text_at, list_at}
use Rattle.tfs_addr.specs.Address.{InstanceKey, by_number, by_text, stripped_text}
use Rattle.tfs_addr.specs.declared.resource.Mode.{Mode}
use Rattle.tfs_addr.specs.declared.resource.Mode.TheVariants.{Managed, DataSource}
use Rattle.tfs_state.specs.Document.{Instance}
use Rattle.tfs_state.specs.declared.fault.StateFault.{StateFault}
use Rattle.tfs_state.specs.declared.fault.StateFault.TheVariants.{Resource, Instance as InstanceFault, Dependency}

-- A function that may fail, applied to a successful result. A fault is passed on.
abbrev pub result_and_then : {A B F : Type 0} → (A → Result B F) → Result A F → Result B F
result_and_then f (Ok x) = f x
result_and_then f (Err fault) = Err fault

-- A function applied to a successful result. A fault is passed on.
abbrev pub result_map : {A B F : Type 0} → (A → B) → Result A F → Result B F
result_map f (Ok x) = Ok (f x)
result_map f (Err fault) = Err fault

-- The elements in order, each read with its index; the first index is `i`. The first element that
-- is refused gives its fault.
unfoldable pub read_each : {A B F : Type 0} → (ℕ → A → Result B F) → ℕ → List A → Result (List B) F
read_each read i [] = Ok []
read_each read i (x ∷ xs) =
    result_and_then (λ y. result_map (λ ys. y ∷ ys) (read_each read (suc i) xs)) (read i x)

-- A text that isn't empty.
abbrev pub filled_text : List ℕ → Option (List ℕ)
filled_text [] = None
filled_text (byte ∷ bytes) = Some (byte ∷ bytes)

-- The unchanged text, if it reads as pieces.
abbrev pub path_text : List ℕ → Option (List ℕ)
path_text text = option_map (λ _. text) (stripped_text text)

-- ---- A dependency.

-- A dependency is a text that reads as pieces. It is kept unchanged.
abbrev pub dependency_of : Data → Option (List ℕ)
dependency_of value = option_and_then path_text (as_str value)

-- Dependency k of instance j of resource i.
abbrev pub read_dependency : ℕ → ℕ → ℕ → Data → Result (List ℕ) StateFault
read_dependency i j k value = ok_or (dependency_of value) (Dependency i j k)

-- ---- An instance.

-- The key of an instance, which is absent, an unsigned 64-bit integer or a text. The outer None
-- means any other value.
abbrev pub key_given : Option Data → Option (Option InstanceKey)
key_given None = Some None
key_given (Some value) = option_or
    (option_map (λ n. Some (by_number n)) (option_and_then as_u64 (as_number value)))
    (option_map (λ text. Some (by_text text)) (as_str value))

-- The `deposed` text of an instance; an empty one counts as absent. The outer None means a value
-- that isn't a text.
abbrev pub deposed_of : Data → Option (Option (List ℕ))
deposed_of value = option_map (option_and_then filled_text) (optional_text_at (codes "deposed") value)

-- The own members of an instance. Of its dependencies only the list is checked, not the elements.
pub record InstanceMembers : Type 0 where
  pub key : Option InstanceKey
  pub deposed : Option (List ℕ)
  pub dependencies : List Data

-- The own members of an instance, which is an object.
abbrev pub instance_members : Data → Option InstanceMembers
instance_members value =
    option_and_then (λ _.
    option_and_then (λ key.
    option_and_then (λ deposed.
    option_map (λ dependencies. record { key = key; deposed = deposed; dependencies = dependencies })
    (list_at (codes "dependencies") value))
    (deposed_of value))
    (key_given (member_at (codes "index_key") value)))
    (as_object value)

-- An instance without the fields of its resource.
pub record Own : Type 0 where
  pub key : Option InstanceKey
  pub deposed : Option (List ℕ)
  pub dependencies : List (List ℕ)

-- The members of an instance after its dependencies are read.
abbrev pub own_of : InstanceMembers → List (List ℕ) → Own
own_of members dependencies = record { key = members.key; deposed = members.deposed; dependencies = dependencies }

-- Instance j of resource i. Its own members are checked first, then its dependencies.
abbrev pub read_instance : ℕ → ℕ → Data → Result Own StateFault
read_instance i j value =
    result_and_then (λ members. result_map (own_of members) (read_each (read_dependency i j) 0 members.dependencies))
    (ok_or (instance_members value) (InstanceFault i j))

-- ---- A resource.

-- The mode that a text names.
abbrev pub mode_named : List ℕ → Option Mode
mode_named text = if bytes_eq text (codes "managed") then Some Managed
    else (if bytes_eq text (codes "data") then Some DataSource else None)

-- The path of the module, which is a text. An absent path is the empty one, of the root module.
-- Whether the text reads as pieces isn't checked here.
abbrev pub path_of : Data → Option (List ℕ)
path_of value = option_map or_root (optional_text_at (codes "module") value)
  where
    or_root : Option (List ℕ) → List ℕ
    or_root None = []
    or_root (Some path) = path

-- The own members of a resource. Of its instances only the list is checked, not the elements.
pub record ResourceMembers : Type 0 where
  pub path : List ℕ
  pub mode : Mode
  pub kind : List ℕ
  pub name : List ℕ
  pub instances : List Data

-- The own members of a resource. Whether its module's path reads as pieces isn't checked.
abbrev pub resource_members : Data → Option ResourceMembers
resource_members value =
    option_and_then (λ path.
    option_and_then (λ mode.
    option_and_then (λ kind.
    option_and_then (λ name.
    option_map (λ instances. record { path = path; mode = mode; kind = kind; name = name; instances = instances })
    (list_at (codes "instances") value))
    (option_and_then filled_text (text_at (codes "name") value)))
    (option_and_then filled_text (text_at (codes "type") value)))
    (option_and_then mode_named (text_at (codes "mode") value)))
    (path_of value)

-- The own members of a resource whose module's path reads as pieces.
abbrev pub resource_of : Data → Option ResourceMembers
resource_of value = option_and_then (λ r. option_map (λ _. r) (stripped_text r.path)) (resource_members value)

-- The instance with the fields of its resource and its own.
abbrev pub instance_of : ResourceMembers → Own → Instance
instance_of r own = record {
  path = r.path;
  mode = r.mode;
  kind = r.kind;
  name = r.name;
  key = own.key;
  deposed = own.deposed;
  dependencies = own.dependencies;
}

-- Resource i. Its own members are checked first, then its instances.
abbrev pub read_resource : ℕ → Data → Result (List Instance) StateFault
read_resource i value =
    result_and_then (λ r. result_map (map (instance_of r)) (read_each (read_instance i) 0 r.instances))
    (ok_or (resource_of value) (Resource i))

-- The concatenation of lists.
abbrev pub joined : List (List Instance) → List Instance
joined lists = flat_map (λ instances. instances) lists

-- All instances of a list of resources, resource by resource.
abbrev pub read_resources : List Data → Result (List Instance) StateFault
read_resources values = result_map joined (read_each read_resource 0 values)
