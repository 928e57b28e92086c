-- Lemmas about specs/FirstFault.antt.
use Rattle.std.proofs.Common.{◌≡◌, inl, inr, ℕ, zero, suc, ◌+◌, ◌<◌, ◌↔◌, List, [], ◌∷◌, Option, Some, None, Result, Ok, Err, refl, sym, ap, ◌∙◌}
use Rattle.std.proofs.Common.{arith, add-zero, zero-add, map}
use Rattle.std.specs.List.{slice_get}
use Rattle.std.specs.Option.{ok_or}
use Rattle.serde_json.specs.Data.{Data}
use Rattle.tfs_state.specs.Document.{Instance as InstanceValue}
use Rattle.tfs_state.specs.FirstFault.{IsFirstFault, IsDependencyFault, IsInstanceFault, IsResourceFault}
use Rattle.tfs_state.specs.Resources.{Own, ResourceMembers, InstanceMembers, result_and_then, result_map, read_each, joined, own_of, instance_of}
use Rattle.tfs_state.specs.Resources.{dependency_of, instance_members, resource_of, read_dependency, read_instance, read_resource, read_resources}
use Rattle.tfs_state.specs.declared.fault.StateFault.{StateFault}
use Rattle.tfs_state.specs.declared.fault.StateFault.TheVariants.{Resource, Instance, Dependency}

-- A fault of a mapped result is a fault of the result.
map_fault : {A B F : Type 0} (f : A → B) (r : Result A F) (fault : F) → result_map f r ≡ Err fault → r ≡ Err fault
map_fault f (Ok x) fault e = cc
map_fault f (Err other) fault e = let same : other ≡ fault = cc in ap Err same

-- A fault of a result is a fault of the mapped result.
fault_map : {A B F : Type 0} (f : A → B) (r : Result A F) (fault : F) → r ≡ Err fault → result_map f r ≡ Err fault
fault_map f r fault e = ap (result_map f) e

module _ {B : Type 0} (read : ℕ → Data → Result B StateFault) where
  -- The first fault of a list whose first element has the number i.
  record FirstFrom (i : ℕ) (values : List Data) (fault : StateFault) : Type 0 where
    place : ℕ
    value : Data
    listed : slice_get values place ≡ Some value
    refused : read (i + place) value ≡ Err fault
    before : (n : ℕ) (earlier : Data) → n < place → slice_get values n ≡ Some earlier → (y : B) × (read (i + n) earlier ≡ Ok y)

  first_from : (i : ℕ) (values : List Data) (fault : StateFault) → read_each read i values ≡ Err fault → FirstFrom i values fault
  unfolding read_each
  first_from i [] fault e = cc
  first_from i (v ∷ values) fault e =
      elim (read i v) as (λ o. read i v ≡ o → result_and_then (λ y. result_map (λ ys. y ∷ ys) (read_each read (suc i) values)) o ≡ Err fault
      → FirstFrom i (v ∷ values) fault) [
        | Ok y ↦ λ is f. later y is (first_from (suc i) values fault (map_fault (λ ys. y ∷ ys) (read_each read (suc i) values) fault f))
        | Err other ↦ λ is f. record {
          place = 0;
          value = v;
          listed = refl;
          refused = ap (λ n. read n v) (add-zero i) ∙ is ∙ (let same : other ≡ fault = cc in ap Err same);
          before = λ n earlier h at. absurd (let no : ⊥ = omega (arith, h) in no);
        }
      ] refl e
    where
      later : (y : B) → read i v ≡ Ok y → FirstFrom (suc i) values fault → FirstFrom i (v ∷ values) fault
      later y is first = record {
        place = suc first.place;
        value = first.value;
        listed = first.listed;
        refused = ap (λ n. read n first.value) (let same : i + suc first.place ≡ suc i + first.place = omega arith in same) ∙ first.refused;
        before = earlier_of;
      }
        where
          earlier_of : (n : ℕ) (earlier : Data) → n < suc first.place → slice_get (v ∷ values) n ≡ Some earlier → (z : B) × (read (i + n) earlier ≡ Ok z)
          earlier_of zero earlier h at = (y, ap (λ n. read n earlier) (add-zero i) ∙ ap (read i) (let same : earlier ≡ v = cc in same) ∙ is)
          earlier_of (suc n) earlier h at =
              let found = first.before n earlier (omega (arith, h)) at in
              (found.0, ap (λ m. read m earlier) (let same : i + suc n ≡ suc i + n = omega arith in same) ∙ found.1)

  -- A list has the fault of an invalid element if every element before it is valid.
  refused_at : (i : ℕ) (values : List Data) (place : ℕ) (value : Data) (fault : StateFault) → slice_get values place ≡ Some value
      → read (i + place) value ≡ Err fault
      → ((n : ℕ) (earlier : Data) → n < place → slice_get values n ≡ Some earlier → (y : B) × (read (i + n) earlier ≡ Ok y))
      → read_each read i values ≡ Err fault
  unfolding read_each
  refused_at i [] place value fault at refused before = cc
  refused_at i (v ∷ values) zero value fault at refused before =
      let now : read i v ≡ Err fault = ap (read i) (let same : v ≡ value = cc in same) ∙ ap (λ n. read n value) (sym (add-zero i)) ∙ refused in
      rw now refl
  refused_at i (v ∷ values) (suc place) value fault at refused before =
      let first = before zero v (omega arith) refl in
      let now : read i v ≡ Ok first.0 = ap (λ n. read n v) (sym (add-zero i)) ∙ first.1 in
      let later = refused_at (suc i) values place value fault at
      (ap (λ n. read n value) (let same : suc i + place ≡ i + suc place = omega arith in same) ∙ refused)
      (λ n earlier h there. let found = before (suc n) earlier (omega (arith, h)) there in
      (found.0, ap (λ m. read m earlier) (let same : suc i + n ≡ i + suc n = omega arith in same) ∙ found.1)) in
      rw now (rw later refl)

  from_first : (i : ℕ) (values : List Data) (fault : StateFault) → FirstFrom i values fault → read_each read i values ≡ Err fault
  from_first i values fault first = refused_at i values first.place first.value fault first.listed first.refused first.before

  -- A list has a fault if and only if it is the fault of its first invalid element.
  pub each_fault : (values : List Data) (fault : StateFault) → (read_each read 0 values ≡ Err fault) ↔ IsFirstFault read values fault
  each_fault values fault = (
    λ e. let first = first_from 0 values fault e in record {
      place = first.place;
      value = first.value;
      listed = first.listed;
      refused = ap (λ n. read n first.value) (sym (zero-add first.place)) ∙ first.refused;
      before = λ n earlier h at. let found = first.before n earlier h at in (found.0, ap (λ m. read m earlier) (sym (zero-add n)) ∙ found.1);
    },
    λ first. from_first 0 values fault (record {
      place = first.place;
      value = first.value;
      listed = first.listed;
      refused = ap (λ n. read n first.value) (zero-add first.place) ∙ first.refused;
      before = λ n earlier h at. let found = first.before n earlier h at in (found.0, ap (λ m. read m earlier) (zero-add n) ∙ found.1);
    }),
  )

-- A list of resources has a fault if and only if it is the fault of the first invalid resource.
pub resources_fault : (values : List Data) (fault : StateFault) → (read_resources values ≡ Err fault) ↔ IsFirstFault read_resource values fault
resources_fault values fault =
    let each = each_fault read_resource values fault in (
      λ e. each.0 (map_fault joined (read_each read_resource 0 values) fault e),
      λ first. fault_map joined (read_each read_resource 0 values) fault
          (each.1 first),
    )

-- The result of reading a resource with these members of its own.
abbrev resource_with : ℕ → Option ResourceMembers → Result (List InstanceValue) StateFault
resource_with i o = result_and_then (λ r. result_map (map (instance_of r)) (read_each (read_instance i) 0 r.instances)) (ok_or o (Resource i))

-- A resource has a fault if and only if it is its own or the first of its instances.
pub resource_fault : (i : ℕ) (value : Data) (fault : StateFault) → (read_resource i value ≡ Err fault) ↔ IsResourceFault i value fault
resource_fault i value fault = (λ e. to (resource_of value) refl e, from)
  where
    to : (o : Option ResourceMembers) → resource_of value ≡ o → resource_with i o ≡ Err fault → IsResourceFault i value fault
    to None is e = inl (let same : fault ≡ Resource i = cc in same, is)
    to (Some r) is e = inr (
      r,
      is,
      (each_fault (read_instance i) r.instances fault).0 (map_fault (map (instance_of r)) (read_each (read_instance i) 0
          r.instances) fault e),
    )

    from : IsResourceFault i value fault → read_resource i value ≡ Err fault
    from (inl own) = ap (resource_with i) own.1 ∙ ap Err (sym own.0)
    from (inr later) = ap (resource_with i) later.1 ∙ fault_map (map (instance_of later.0)) (read_each (read_instance i) 0 later.0.instances) fault
        ((each_fault (read_instance i) later.0.instances fault).1 later.2)

-- The result of reading an instance with these members of its own.
abbrev instance_with : ℕ → ℕ → Option InstanceMembers → Result Own StateFault
instance_with i j o = result_and_then (λ members. result_map (own_of members) (read_each (read_dependency i j) 0 members.dependencies)) (ok_or o (Instance i j))

-- An instance has a fault if and only if it is its own or the first of its dependencies.
pub instance_fault : (i j : ℕ) (value : Data) (fault : StateFault) → (read_instance i j value ≡ Err fault) ↔ IsInstanceFault i j value fault
instance_fault i j value fault = (λ e. to (instance_members value) refl e, from)
  where
    to : (o : Option InstanceMembers) → instance_members value ≡ o → instance_with i j o ≡ Err fault → IsInstanceFault i j value fault
    to None is e = inl (let same : fault ≡ Instance i j = cc in same, is)
    to (Some members) is e = inr (
      members,
      is,
      (each_fault (read_dependency i j) members.dependencies fault).0
          (map_fault (own_of members) (read_each (read_dependency i j) 0 members.dependencies) fault e),
    )

    from : IsInstanceFault i j value fault → read_instance i j value ≡ Err fault
    from (inl own) = ap (instance_with i j) own.1 ∙ ap Err (sym own.0)
    from (inr later) = ap (instance_with i j) later.1 ∙ fault_map (own_of later.0) (read_each (read_dependency i j) 0 later.0.dependencies) fault
        ((each_fault (read_dependency i j) later.0.dependencies fault).1 later.2)

-- A dependency has a fault if and only if it isn't a text or doesn't read as pieces.
pub dependency_fault : (i j k : ℕ) (value : Data) (fault : StateFault) → (read_dependency i j k value ≡ Err fault) ↔ IsDependencyFault i j k value fault
dependency_fault i j k value fault = (λ e. to (dependency_of value) refl e, λ own. ap (λ o. ok_or o (Dependency i j k)) own.1 ∙ ap Err (sym own.0))
  where
    to : (o : Option (List ℕ)) → dependency_of value ≡ o → ok_or o (Dependency i j k) ≡ Err fault → IsDependencyFault i j k value fault
    to None is e = (let same : fault ≡ Dependency i j k = cc in same, is)
    to (Some text) is e = cc
