-- Equality of JSON values, as `==` of `serde_json` has it.
use Rattle.std.specs.Prelude.{ℕ, List, Bool, true, false, ◌&&◌, ◌==◌, not, is_some}
use Rattle.std.specs.Option.{option_map_or}
use Rattle.std.specs.Ordering.{int_eq}
use Rattle.std.specs.Str.{bytes_eq}
use Rattle.std.specs.Float.Ieee.{eq}
use Rattle.serde_json.specs.Find.{as_null, as_bool, as_number, as_str, as_array, as_object}
use Rattle.serde_json.specs.Data.{Num, unsigned, negative, float, Data, null, boolean, number, string, array, object, Items, no_items, item, Members, no_members, member}

-- True if two numbers are equal: two integers, or two floats; 0.0 equals -0.0.
abbrev pub is_same_number : Num → Num → Bool
is_same_number (unsigned m) (unsigned n) = m == n
is_same_number (unsigned m) (negative z) = false
is_same_number (unsigned m) (float y) = false
is_same_number (negative w) (unsigned n) = false
is_same_number (negative w) (negative z) = int_eq w z
is_same_number (negative w) (float y) = false
is_same_number (float x) (unsigned n) = false
is_same_number (float x) (negative z) = false
is_same_number (float x) (float y) = eq x y

-- True if two booleans are equal.
abbrev pub is_same_truth : Bool → Bool → Bool
is_same_truth true b = b
is_same_truth false b = not b

-- True if two values are equal: lists have equal elements in order, and objects equal members.
abbrev mutual
  pub is_same : Data → Data → Bool
  is_same null other = is_some (as_null other)
  is_same (boolean a) other = option_map_or (is_same_truth a) (as_bool other) false
  is_same (number m) other = option_map_or (is_same_number m) (as_number other) false
  is_same (string s) other = option_map_or (bytes_eq s) (as_str other) false
  is_same (array ds) other = option_map_or (are_same_items ds) (as_array other) false
  is_same (object ms) other = option_map_or (are_same_members ms) (as_object other) false

  pub are_same_items : Items → Items → Bool
  are_same_items no_items no_items = true
  are_same_items no_items (item e es) = false
  are_same_items (item d ds) no_items = false
  are_same_items (item d ds) (item e es) = is_same d e && are_same_items ds es

  pub are_same_members : Members → Members → Bool
  are_same_members no_members no_members = true
  are_same_members no_members (member l e ns) = false
  are_same_members (member k d ms) no_members = false
  are_same_members (member k d ms) (member l e ns) = bytes_eq k l && (is_same d e && are_same_members ms ns)
