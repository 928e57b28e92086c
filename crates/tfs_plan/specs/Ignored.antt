-- Updates of ignored attributes alone, in the value of a change: its members `before` and `after`
-- have the attributes, and `after_unknown` has `true` for what isn't known before the plan is
-- applied (Terraform documentation: JSON output format, change representation).
use Rattle.std.specs.Prelude.{ℕ, List, length, ◌==◌, codes, if◌then◌else◌, Bool, true, false, not, ◌||◌, ◌&&◌, option_and_then, Option, Some, None}
use Rattle.std.specs.List.{list_any}
use Rattle.std.specs.Option.{option_map_or}
use Rattle.std.specs.Str.{bytes_eq}
use Rattle.serde_json.specs.Data.{Data, null, boolean, number, string, array, object, Items, no_items, item, Members, no_members, member}
use Rattle.serde_json.specs.Find.{get, as_object}
use Rattle.tfs_plan.specs.declared.action.Action.{Action}
use Rattle.tfs_plan.specs.declared.action.Action.TheVariants.{NoOp, Create, Read, Update, Delete, Replace, Forget}
use Rattle.tfs_plan.specs.Same.{is_same}

-- True if a value is `true` or has one inside.
abbrev mutual
  pub has_true : Data → Bool
  has_true null = false
  has_true (boolean b) = b
  has_true (number n) = false
  has_true (string s) = false
  has_true (array ds) = has_true_item ds
  has_true (object ms) = has_true_member ms

  pub has_true_item : Items → Bool
  has_true_item no_items = false
  has_true_item (item d ds) = has_true d || has_true_item ds

  pub has_true_member : Members → Bool
  has_true_member no_members = false
  has_true_member (member k d ms) = has_true d || has_true_member ms

-- True if a name is in a list.
abbrev pub is_named : List (List ℕ) → List ℕ → Bool
is_named names name = list_any (λ own. bytes_eq own name) names

-- True if each attribute whose name isn't in the list passes a test.
abbrev pub all_others : (List ℕ → Data → Bool) → List (List ℕ) → Members → Bool
all_others passes names no_members = true
all_others passes names (member name value ms) = (is_named names name || passes name value) && all_others passes names ms

-- True if each attribute, except the ignored ones, is known before the plan is applied.
abbrev pub are_known : List (List ℕ) → Data → Bool
are_known names change =
    option_map_or (all_others (λ name value. not (has_true value)) names) (option_and_then as_object (get (codes "after_unknown") change)) false

-- True if a value has an attribute with this name and value.
abbrev pub has_same : Data → List ℕ → Data → Bool
has_same side name value = option_map_or (λ own. is_same own value) (get name side) false

-- True if each attribute of one side of a change, except the ignored ones, is the same on the
-- other side.
abbrev pub is_kept : List (List ℕ) → Option Data → Option Data → Bool
is_kept names None other = false
is_kept names (Some side) None = false
is_kept names (Some side) (Some other) = option_map_or (all_others (has_same other) names) (as_object side) false

-- True if a change has no other attribute than the ignored ones whose value differs, or isn't
-- known yet.
abbrev pub keeps_others : List (List ℕ) → Data → Bool
keeps_others names change =
    are_known names change
    && (is_kept names (get (codes "before") change) (get (codes "after") change)
    && is_kept names (get (codes "after") change) (get (codes "before") change))

-- True if names are given, and the change has no other attribute that differs or isn't known.
abbrev pub is_only_ignored : List (List ℕ) → Data → Bool
is_only_ignored names value =
    if length names == 0 then false else option_map_or (keeps_others names) (get (codes "change") value) false

-- True if a change with this action is an update of ignored attributes alone.
abbrev pub is_ignored : List (List ℕ) → Action → Data → Bool
is_ignored names NoOp value = false
is_ignored names Create value = false
is_ignored names Read value = false
is_ignored names Update value = is_only_ignored names value
is_ignored names Delete value = false
is_ignored names Replace value = false
is_ignored names Forget value = false
