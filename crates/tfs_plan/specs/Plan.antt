-- A plan: the JSON text that `terraform show -json PLAN` prints (Terraform documentation: JSON
-- output format, plan representation), with the changes that it holds.
use Rattle.std.specs.Prelude.{◌≡◌, ◌≤◌, ℕ, suc, List, [], ◌∷◌, length, map, codes, Bool, true, false, not, ◌||◌, ◌&&◌, nat_eq, nat_lt, if◌then◌else◌, is_some, is_none}
use Rattle.std.specs.Prelude.{Option, Some, None, option_and_then, option_map, IsNone, Contains}
use Rattle.std.specs.List.{AllZip, starts_with}
use Rattle.std.specs.Option.{option_map_or, option_or}
use Rattle.std.specs.Str.{bytes_eq}
use Rattle.serde_json.specs.Data.{Data, null, boolean, number, string, array, object, Items, no_items, item, Members, no_members, member}
use Rattle.serde_json.specs.Find.{get, as_str, as_array}
use Rattle.tfs_json.specs.Json.{json_value, text_at, optional_text_at, member_at, list_at}
use Rattle.tfs_plan.specs.declared.action.Action.{Action}
use Rattle.tfs_plan.specs.declared.action.Action.TheVariants.{NoOp, Create, Read, Update, Delete, Replace, Forget}
use Rattle.tfs_plan.specs.Ignored.{is_ignored}
use Rattle.tfs_plan.specs.declared.fault.PlanFault.{PlanFault}
use Rattle.tfs_plan.specs.declared.fault.PlanFault.TheVariants.{NotJson, NotPlan, Changes, TooManyChanges, Address, PreviousAddress, Deposed, Actions}

-- ---- A change.

-- The action that one word names.
abbrev pub action_named : List ℕ → Option Action
action_named word =
    if bytes_eq word (codes "no-op") then Some NoOp
    else (if bytes_eq word (codes "create") then Some Create
    else (if bytes_eq word (codes "read") then Some Read
    else (if bytes_eq word (codes "update") then Some Update
    else (if bytes_eq word (codes "delete") then Some Delete
    else (if bytes_eq word (codes "forget") then Some Forget else None)))))

-- True if the word says that the object goes away: it is destroyed, or only forgotten.
abbrev pub is_end : List ℕ → Bool
is_end word = bytes_eq word (codes "delete") || bytes_eq word (codes "forget")

-- The action that two words name: an object goes away and another one is created, in either order.
abbrev pub action_of_both : List ℕ → List ℕ → Option Action
action_of_both one other =
    if is_end one && bytes_eq other (codes "create") then Some Replace
    else (if bytes_eq one (codes "create") && is_end other then Some Replace else None)

-- The action that a list of words names.
abbrev pub action_in : Items → Option Action
action_in no_items = None
action_in (item one no_items) = option_and_then action_named (as_str one)
action_in (item one (item other no_items)) =
    option_and_then (λ a. option_and_then (action_of_both a) (as_str other)) (as_str one)
action_in (item one (item other (item third more))) = None

-- The action of a change.
abbrev pub action_at : Data → Option Action
action_at value =
    option_and_then action_in (option_and_then as_array (option_and_then (get (codes "actions")) (get (codes "change") value)))

-- A change: the address of its instance, the address before a move, whether it is about a deposed
-- object, what it does, and whether it is an update of ignored attributes alone.
pub record ChangeValue : Type 0 where
  pub address : List ℕ
  pub previous : Option (List ℕ)
  pub deposed : Bool
  pub action : Action
  pub ignored : Bool

-- A value describes a change.
pub record IsChangeOf (names : List (List ℕ)) (value : Data) (c : ChangeValue) : Type 0 where
  pub address : text_at (codes "address") value ≡ Some c.address
  pub previous : optional_text_at (codes "previous_address") value ≡ Some c.previous
  pub key : Option (List ℕ)
  pub keyed : optional_text_at (codes "deposed") value ≡ Some key
  pub deposed : c.deposed ≡ is_some key
  pub action : action_at value ≡ Some c.action
  pub ignored : c.ignored ≡ is_ignored names c.action value

-- The fault of change i, or None.
abbrev pub change_fault : ℕ → Data → Option PlanFault
change_fault i value =
    if is_none (text_at (codes "address") value) then Some (Address i)
    else (if is_none (optional_text_at (codes "previous_address") value) then Some (PreviousAddress i)
    else (if is_none (optional_text_at (codes "deposed") value) then Some (Deposed i)
    else (if is_none (action_at value) then Some (Actions i) else None)))

-- ---- A plan.

-- True if a value has the version of a plan of format 1.
abbrev pub has_version : Data → Bool
has_version value = option_map_or (λ version. starts_with nat_eq version (codes "1.")) (text_at (codes "format_version") value) false

-- True if a value is a plan of format 1.
abbrev pub is_plan : Data → Bool
is_plan value = has_version value && is_some (member_at (codes "planned_values") value)

-- The fault of the first change that has one. The first index is i.
unfoldable pub first_fault : ℕ → List Data → Option PlanFault
first_fault i [] = None
first_fault i (value ∷ values) = option_or (change_fault i value) (first_fault (suc i) values)

-- The fault of a plan's changes, of which there may be 65,536.
abbrev pub list_fault : List Data → Option PlanFault
list_fault values = if nat_lt 65536 (length values) then Some TooManyChanges else first_fault 0 values

-- The fault of a list that may be absent.
abbrev pub changes_fault : Option (List Data) → Option PlanFault
changes_fault None = Some Changes
changes_fault (Some values) = list_fault values

-- The first fault of a value, or None.
abbrev pub value_fault : Data → Option PlanFault
value_fault value =
    if not (is_plan value) then Some NotPlan else changes_fault (list_at (codes "resource_changes") value)

-- The first fault of bytes, or None.
abbrev pub plan_fault : List ℕ → Option PlanFault
plan_fault bytes = fault_of (json_value bytes)
  where
    fault_of : Option Data → Option PlanFault
    fault_of None = Some NotJson
    fault_of (Some value) = value_fault value

-- The values describe these changes, in order.
abbrev pub AreChanges : List (List ℕ) → List Data → List ChangeValue → Type 0
AreChanges names values changes = AllZip (IsChangeOf names) values changes

-- The value is a plan with these changes.
pub record HasChanges (names : List (List ℕ)) (value : Data) (changes : List ChangeValue) : Type 0 where
  pub plan : is_plan value ≡ true
  pub values : List Data
  pub few : length values ≤ 65536
  pub listed : list_at (codes "resource_changes") value ≡ Some values
  pub are : AreChanges names values changes

-- The bytes are the text of a plan with these changes.
abbrev pub IsPlan : List (List ℕ) → List ℕ → List ChangeValue → Type 0
IsPlan names bytes changes = (value : Data) × (json_value bytes ≡ Some value) × HasChanges names value changes
