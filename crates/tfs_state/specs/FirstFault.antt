-- The first fault of a list, by position.
use Rattle.std.specs.Prelude.{◌≡◌, ◌⊎◌, ℕ, ◌<◌, List, slice_get, Some, None, Result, Ok, Err}
use Rattle.serde_json.specs.Data.{Data}
use Rattle.tfs_state.specs.Resources.{ResourceMembers, InstanceMembers, dependency_of, instance_members, read_dependency, read_instance, resource_of}
use Rattle.tfs_state.specs.declared.fault.StateFault.{StateFault}
use Rattle.tfs_state.specs.declared.fault.StateFault.TheVariants.{Resource, Instance, Dependency}

-- An element of the list has the fault, and every element before it is valid.
pub record IsFirstFault {B : Type 0} (read : ℕ → Data → Result B StateFault) (values : List Data) (fault : StateFault) : Type 0 where
  pub place : ℕ
  pub value : Data
  pub listed : slice_get values place ≡ Some value
  pub refused : read place value ≡ Err fault
  pub before : (n : ℕ) (earlier : Data) → n < place → slice_get values n ≡ Some earlier → (y : B) × (read n earlier ≡ Ok y)

-- A value that isn't a text, or a text that doesn't read as pieces, has the fault of its
-- dependency.
abbrev pub IsDependencyFault : ℕ → ℕ → ℕ → Data → StateFault → Type 0
IsDependencyFault i j k value fault = (fault ≡ Dependency i j k) × (dependency_of value ≡ None)

-- An instance has its own fault if it isn't an instance by its own members; otherwise it has the
-- first fault of its dependencies.
abbrev pub IsInstanceFault : ℕ → ℕ → Data → StateFault → Type 0
IsInstanceFault i j value fault = ((fault ≡ Instance i j) × (instance_members value ≡ None))
    ⊎ ((members : InstanceMembers) × (instance_members value ≡ Some members) × IsFirstFault (read_dependency i j) members.dependencies fault)

-- A resource has its own fault if it isn't a resource by its own members; otherwise it has the
-- first fault of its instances.
abbrev pub IsResourceFault : ℕ → Data → StateFault → Type 0
IsResourceFault i value fault = ((fault ≡ Resource i) × (resource_of value ≡ None))
    ⊎ ((r : ResourceMembers) × (resource_of value ≡ Some r) × IsFirstFault (read_instance i) r.instances fault)
