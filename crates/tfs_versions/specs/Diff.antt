-- The differences between two states. Instances are compared by address, attributes by JSON.
use Rattle.std.specs.Prelude.{ℕ, ◌+◌, List, [], ◌∷◌, ◌++◌, codes, if◌then◌else◌}
use Rattle.std.specs.Prelude.{Option, Some, None, is_some}
use Rattle.std.specs.List.{flat_map, find}
use Rattle.std.specs.Option.{option_map_or, unwrap_or}
use Rattle.std.specs.Str.{bytes_eq}
use Rattle.json.specs.Json.{Json, Items, no_items, item, Members, no_members, member, document}
use Rattle.json.specs.Find.{get, is_null, as_array, as_object}
use Rattle.json.specs.Print.{print}
use Rattle.json.specs.Tree.{json_tokens}
use Rattle.tfs_state.specs.Document.{Document}
use Rattle.tfs_state.specs.Dependency.{address_of}
use Rattle.tfs_versions.specs.declared.difference.ChangeKind.{ChangeKind}
use Rattle.tfs_versions.specs.declared.difference.ChangeKind.TheVariants.{Added, Removed, Changed}

-- ---- the instances of a state's text

-- The elements of a list.
abbrev pub elements : Items → List Json
elements no_items = []
elements (item j more) = j ∷ elements more

-- The members of an object, each with its name.
abbrev pub named : Members → List (List ℕ × Json)
named no_members = []
named (member name j more) = (name, j) ∷ named more

-- The elements of a list; none for another value.
abbrev pub list_of : Json → List Json
list_of j = option_map_or elements (as_array j) []

-- The elements of the list at a member; none if there is no list.
abbrev pub list_at : List ℕ → Json → List Json
list_at name j = option_map_or list_of (get name j) []

-- The objects of a state's instances, resource after resource.
abbrev pub objects_of : Json → List Json
objects_of state = flat_map (list_at (codes "instances")) (list_at (codes "resources") state)

-- An attribute: its name, and its value as compact JSON.
pub record AttributeValue : Type 0 where
  pub name : List ℕ
  pub text : List ℕ

-- A member as an attribute. A null is no attribute.
abbrev pub attribute_of : List ℕ × Json → List AttributeValue
attribute_of m = if is_null m.1 then []
    else record { name = m.0; text = print (json_tokens m.1) } ∷ []

-- The members of an object as attributes; none for another value.
abbrev pub attributes_in : Json → List AttributeValue
attributes_in j = option_map_or (λ members. flat_map attribute_of (named members)) (as_object j) []

-- The attributes of an instance's JSON object.
abbrev pub attributes_of : Json → List AttributeValue
attributes_of j = option_map_or attributes_in (get (codes "attributes") j) []

-- An instance: its address, and its attributes.
pub record InstanceValue : Type 0 where
  pub address : List ℕ
  pub attributes : List AttributeValue

-- The instance with a number in a document, from its JSON object.
abbrev pub instance_of : Document → ℕ → Json → InstanceValue
instance_of d number j =
    record { address = unwrap_or (address_of d number) []; attributes = attributes_of j }

-- The instances of these JSON objects. The first object has this number in the document.
abbrev pub instances_from : Document → ℕ → List Json → List InstanceValue
instances_from d number [] = []
instances_from d number (j ∷ more) = instance_of d number j ∷ instances_from d (number + 1) more

-- The instances of a document, in the order of its text.
abbrev pub instances_of : Document → List InstanceValue
instances_of d =
    option_map_or (λ state. instances_from d 0 (objects_of state)) (document d.bytes) []

-- ---- the differences

-- An attribute that differs, with both values as compact JSON. An absent value is empty.
pub record DifferenceValue : Type 0 where
  pub name : List ℕ
  pub from : List ℕ
  pub to : List ℕ

-- The attribute with a name.
abbrev pub attribute_in : List AttributeValue → List ℕ → Option AttributeValue
attribute_in attributes name = find (λ a. bytes_eq a.name name) attributes

-- The text of the attribute with a name; empty if there is none.
abbrev pub text_in : List AttributeValue → List ℕ → List ℕ
text_in attributes name = option_map_or (λ a. a.text) (attribute_in attributes name) []

-- An old attribute, if the new ones lack it or have it with another value.
abbrev pub difference_from : List AttributeValue → AttributeValue → List DifferenceValue
difference_from new a = if bytes_eq a.text (text_in new a.name) then []
    else record { name = a.name; from = a.text; to = text_in new a.name } ∷ []

-- A new attribute, if the old ones lack it.
abbrev pub addition_to : List AttributeValue → AttributeValue → List DifferenceValue
addition_to old a = if is_some (attribute_in old a.name) then []
    else record { name = a.name; from = []; to = a.text } ∷ []

-- The differences between two lists of attributes.
abbrev pub differences : List AttributeValue → List AttributeValue → List DifferenceValue
differences old new = flat_map (difference_from new) old ++ flat_map (addition_to old) new

-- An instance that was added, removed or changed. Only a changed one has differing attributes.
pub record ChangeValue : Type 0 where
  pub kind : ChangeKind
  pub address : List ℕ
  pub attributes : List DifferenceValue

-- The instance with an address.
abbrev pub instance_in : List InstanceValue → List ℕ → Option InstanceValue
instance_in instances address = find (λ i. bytes_eq i.address address) instances

-- A changed instance, if there are differences.
abbrev pub changed : List ℕ → List DifferenceValue → List ChangeValue
changed address [] = []
changed address (d ∷ more) =
    record { kind = Changed; address = address; attributes = d ∷ more } ∷ []

-- The change to an instance of the first state, given the second state's instance, if any.
abbrev pub change_to : InstanceValue → Option InstanceValue → List ChangeValue
change_to i None = record { kind = Removed; address = i.address; attributes = [] } ∷ []
change_to i (Some later) = changed i.address (differences i.attributes later.attributes)

-- The change to an instance of the first state, if it was changed or removed.
abbrev pub change_in : List InstanceValue → InstanceValue → List ChangeValue
change_in new i = change_to i (instance_in new i.address)

-- An instance of the second state, if it was added.
abbrev pub added_to : List InstanceValue → InstanceValue → List ChangeValue
added_to old i = if is_some (instance_in old i.address) then []
    else record { kind = Added; address = i.address; attributes = [] } ∷ []

-- The changes between two documents: the removed and changed instances in the order of the first,
-- then the added ones in the order of the second.
abbrev pub changes_between : Document → Document → List ChangeValue
changes_between from to = flat_map (change_in (instances_of to)) (instances_of from)
    ++ flat_map (added_to (instances_of from)) (instances_of to)
