-- The kept part of a JSON value: of each object the members with certain names, in the order of the
-- text. `serde_json` defines what JSON is, how deep it may be nested, and which numbers are in
-- range.
use Rattle.std.specs.Prelude.{◌≡◌, ℕ, List, length, codes, Bool, true, false, ◌||◌, Option, Some, option_map, option_and_then}
use Rattle.std.specs.Str.{bytes_eq}
use Rattle.json.specs.Token.{Token}
use Rattle.json.specs.Lex.{tokens}
use Rattle.json.specs.Json.{Json, null, boolean, number, string, array, object, Items, no_items, item, Members, no_members, member, value, items, members, if_last}
use Rattle.serde_json.specs.Read.{number_of, converted, max_depth, of_json}
use Rattle.tfs_json.specs.Json.{json_value}

-- The names of the members that are kept.
abbrev pub is_wanted : List ℕ → Bool
is_wanted name =
    bytes_eq name (codes "version") || bytes_eq name (codes "serial") || bytes_eq name (codes "lineage")
    || bytes_eq name (codes "resources") || bytes_eq name (codes "module") || bytes_eq name (codes "mode")
    || bytes_eq name (codes "type") || bytes_eq name (codes "name") || bytes_eq name (codes "instances")
    || bytes_eq name (codes "index_key") || bytes_eq name (codes "deposed") || bytes_eq name (codes "dependencies")
    || bytes_eq name (codes "ID")

-- The members with another one in front, if it is kept.
abbrev pub with_member : Bool → List ℕ → Json → Members → Members
with_member true name j ms = member name j ms
with_member false name j ms = ms

-- The kept part of a value, if all its numbers are in range.
abbrev mutual
  pub kept : Json → Option Json
  kept null = Some null
  kept (boolean b) = Some (boolean b)
  kept (number s) = option_map (λ _. number s) (number_of s)
  kept (string s) = Some (string s)
  kept (array js) = option_map array (kept_items js)
  kept (object ms) = option_map object (kept_members ms)

  pub kept_items : Items → Option Items
  kept_items no_items = Some no_items
  kept_items (item j js) = option_and_then (λ d. option_map (item d) (kept_items js)) (kept j)

  pub kept_members : Members → Option Members
  kept_members no_members = Some no_members
  kept_members (member k j ms) = option_and_then (λ d. option_map (with_member (is_wanted k) k d) (kept_members ms)) (kept j)

-- The kept part of a text.
abbrev pub kept_text : List ℕ → Option Json
kept_text text = option_and_then kept (option_and_then (λ p. if_last p.0 p.1) (value max_depth (tokens text)))

-- The tokens that remain after a value, if its numbers are in range.
abbrev pub tokens_left : {A : Type 0} → Option (A × List Token) → Option (List Token)
tokens_left r = option_map (λ p. p.1) r

-- The tokens after a value.
abbrev pub passed_value : ℕ → List Token → Option (List Token)
passed_value depth ts = tokens_left (converted kept (value depth ts))

-- The tokens after the rest of a list.
abbrev pub passed_items : ℕ → List Token → Option (List Token)
passed_items depth ts = tokens_left (converted kept_items (items (value depth) (length ts) ts))

-- The tokens after the rest of an object.
abbrev pub passed_members : ℕ → List Token → Option (List Token)
passed_members depth ts = tokens_left (converted kept_members (members (value depth) (length ts) ts))

-- The bytes are the JSON text of a value whose kept part is `tree`.
pub record SpellsKept (bytes : List ℕ) (tree : Json) : Type 0 where
  pub whole : Json
  pub spelled : json_value bytes ≡ of_json whole
  pub kept : kept whole ≡ Some tree
