-- The first fault of a state's text is never NoMemory.
use Rattle.std.proofs.Common.{◌≡◌, ◌≢◌, suc, ℕ, Bool, true, false, nat_le, cond, List, [], ◌∷◌, length, Option, Some, None, Result, Ok, Err, IfErr, refl, subst}
use Rattle.std.specs.Option.{ok_or, option_eq}
use Rattle.std.specs.Prelude.{codes, nat_eq}
use Rattle.std.specs.Result.{result_err}
use Rattle.serde_json.specs.Data.{Data}
use Rattle.tfs_json.specs.Json.{json_value, list_at}
use Rattle.tfs_state.specs.Document.{Instance}
use Rattle.tfs_state.specs.Resources.{result_and_then, result_map, read_each, dependency_of, read_dependency, instance_members, read_instance}
use Rattle.tfs_state.specs.Resources.{resource_of, read_resource, read_resources, joined}
use Rattle.tfs_state.specs.StateText.{version_of, serial_of, lineage_of, Content, few_instances, instances_of, content_of, text_content, first_state_fault}
use Rattle.tfs_state.specs.declared.fault.StateFault.{StateFault}
use Rattle.tfs_state.specs.declared.fault.StateFault.TheVariants.{NotJson, Version, Serial, Lineage, Resource, Instance as InstanceFault, Dependency}
use Rattle.tfs_state.specs.declared.fault.StateFault.TheVariants.{TooManyInstances, NoMemory}

-- ---- faults of results that are read step by step

module _ {F : Type 0} (P : F → Type 0) where
  -- If the faults of both steps have a property, the fault of their sequence has it.
  then_faults : {A B : Type 0} (f : A → Result B F) (r : Result A F) → IfErr r P → ((x : A) → IfErr (f x) P) → IfErr (result_and_then f r) P
  then_faults f (Ok x) first next = next x
  then_faults f (Err fault) first next = first

  -- Mapping a result keeps the property of its fault.
  map_faults : {A B : Type 0} (f : A → B) (r : Result A F) → IfErr r P → IfErr (result_map f r) P
  map_faults f (Ok x) of = tt
  map_faults f (Err fault) of = of

  -- The fault for a missing value has the property if the given fault has it.
  absent_fault : {A : Type 0} (o : Option A) (fault : F) → P fault → IfErr (ok_or o fault) P
  absent_fault (Some x) fault of = tt
  absent_fault None fault of = of

  -- If the faults of all elements have a property, the fault of the list has it.
  each_faults : {A B : Type 0} (read : ℕ → A → Result B F) → ((i : ℕ) (x : A) → IfErr (read i x) P) → (i : ℕ) (xs : List A)
      → IfErr (read_each read i xs) P
  unfolding read_each
  each_faults read of i [] = tt
  each_faults read of i (x ∷ xs) =
      then_faults _ (read i x) (of i x) (λ y. map_faults _ (read_each read (suc i) xs) (each_faults read of (suc i) xs))

  -- If the fault of a result has a property, the reported fault has it.
  fault_told : {A : Type 0} (r : Result A F) (fault : F) → result_err r ≡ Some fault → IfErr r P → P fault
  fault_told (Ok x) fault is of = cc
  fault_told (Err found) fault is of = let same : found ≡ fault = cc in subst P same of

-- ---- states

-- The fault is not NoMemory.
abbrev IsOfText : StateFault → Type 0
IsOfText fault = fault ≢ NoMemory

-- The fault of a dependency is not NoMemory.
dependency_faults : (i j k : ℕ) (value : Data) → IfErr (read_dependency i j k value) IsOfText
dependency_faults i j k value = absent_fault IsOfText (dependency_of value) (Dependency i j k) (λ e. cc)

-- The fault of an instance is not NoMemory.
instance_faults : (i j : ℕ) (value : Data) → IfErr (read_instance i j value) IsOfText
instance_faults i j value =
    then_faults IsOfText _ (ok_or (instance_members value) (InstanceFault i j))
    (absent_fault IsOfText (instance_members value) (InstanceFault i j) (λ e. cc))
    (λ members. map_faults IsOfText _ (read_each (read_dependency i j) 0 members.dependencies)
    (each_faults IsOfText (read_dependency i j) (dependency_faults i j) 0 members.dependencies))

-- The fault of a resource is not NoMemory.
resource_faults : (i : ℕ) (value : Data) → IfErr (read_resource i value) IsOfText
resource_faults i value =
    then_faults IsOfText _ (ok_or (resource_of value) (Resource i))
    (absent_fault IsOfText (resource_of value) (Resource i) (λ e. cc))
    (λ r. map_faults IsOfText _ (read_each (read_instance i) 0 r.instances)
    (each_faults IsOfText (read_instance i) (instance_faults i) 0 r.instances))

-- The fault of a list of resources is not NoMemory.
resources_faults : (values : List Data) → IfErr (read_resources values) IsOfText
resources_faults values =
    map_faults IsOfText joined (read_each read_resource 0 values) (each_faults IsOfText read_resource resource_faults 0 values)

-- The fault for too many instances is not NoMemory.
few_faults : (instances : List Instance) → IfErr (few_instances instances) IsOfText
few_faults instances = by (nat_le (length instances) 4096)
  where
    by : (b : Bool) → IfErr (cond b (Ok instances) (Err TooManyInstances)) IsOfText
    by true = tt
    by false = λ e. cc

-- The fault of a value's instances is not NoMemory.
instances_faults : (value : Data) → IfErr (instances_of value) IsOfText
unfolding instances_of
instances_faults value =
    then_faults IsOfText few_instances (result_and_then read_resources (ok_or (list_at (codes "resources") value) (Resource 0)))
    (then_faults IsOfText read_resources (ok_or (list_at (codes "resources") value) (Resource 0))
    (absent_fault IsOfText (list_at (codes "resources") value) (Resource 0) (λ e. cc)) resources_faults)
    few_faults

-- The content of a value of version 4.
abbrev content_by_serial : Data → Result Content StateFault
content_by_serial value = result_and_then (λ serial.
    result_and_then (λ lineage.
    result_map (λ instances. record { serial = serial; lineage = lineage; instances = instances })
    (instances_of value))
    (ok_or (lineage_of value) Lineage))
    (ok_or (serial_of value) Serial)

-- The fault of a value of version 4 is not NoMemory.
serial_faults : (value : Data) → IfErr (content_by_serial value) IsOfText
serial_faults value =
    then_faults IsOfText _ (ok_or (serial_of value) Serial) (absent_fault IsOfText (serial_of value) Serial (λ e. cc))
    (λ serial. then_faults IsOfText _ (ok_or (lineage_of value) Lineage) (absent_fault IsOfText (lineage_of value) Lineage (λ e. cc))
    (λ lineage. map_faults IsOfText _ (instances_of value) (instances_faults value)))

-- The fault of any value is not NoMemory.
content_faults : (value : Data) → IfErr (content_of value) IsOfText
unfolding content_of
content_faults value = by (option_eq nat_eq (version_of value) (Some 4))
  where
    by : (b : Bool) → IfErr (cond b (content_by_serial value) (Err Version)) IsOfText
    by true = serial_faults value
    by false = λ e. cc

-- The first fault of a state's text is not NoMemory.
pub fault_of_text : (bytes : List ℕ) → first_state_fault bytes ≢ Some NoMemory
fault_of_text bytes is = fault_told IsOfText (text_content bytes) NoMemory is
    (then_faults IsOfText content_of (ok_or (json_value bytes) NotJson)
    (absent_fault IsOfText (json_value bytes) NotJson (λ e. cc)) content_faults) refl
