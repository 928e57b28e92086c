-- The instances of a document that a change of an instance reaches.
use Rattle.std.specs.Prelude.{ℕ, zero, suc, Bool, false, ◌&&◌, ◌||◌, List, [], length, slice_get, Option, None, Some, nat_eq}
use Rattle.std.specs.Option.{option_map_or}
use Rattle.std.specs.List.{list_any}
use Rattle.std.specs.Cmp.Lexicographic.{pointwise}
use Rattle.tfs_addr.specs.Address.{stripped_text}
use Rattle.tfs_planes.specs.Walk.{Joins}
use Rattle.tfs_state.specs.Document.{Document, Instance}
use Rattle.tfs_state.specs.Dependency.{DependsOn, config_of}

-- Instance v reaches instance u: a walk of one or more dependencies leads from u to v.
abbrev pub Reaches : Document → ℕ → ℕ → Type 0
Reaches d v u = Joins (DependsOn d) u v

-- ---- The same as tests.

-- True if there is a text and it equals `text`.
unfoldable pub is_text : Option (List ℕ) → List ℕ → Bool
is_text None text = false
is_text (Some own) text = pointwise nat_eq own text

-- The dependency texts of instance u; none if there is no such instance.
abbrev pub dependencies_of : Document → ℕ → List (List ℕ)
dependencies_of d u = option_map_or (λ (instance : Instance). instance.dependencies) (slice_get d.instances u) []

-- True if one of the texts, once stripped, equals the address; false if there is no address.
unfoldable pub lists : List (List ℕ) → Option (List ℕ) → Bool
lists texts None = false
lists texts (Some address) = list_any (λ text. is_text (stripped_text text) address) texts

-- True if instance u depends on instance v.
unfoldable pub depends_on : Document → ℕ → ℕ → Bool
depends_on d u v = lists (dependencies_of d u) (config_of d v)

-- True if a walk leads from i to j whose inner numbers are below a bound. Such a walk either avoids
-- the largest of these numbers or passes through it.
unfoldable pub joins_below : (ℕ → ℕ → Bool) → ℕ → ℕ → ℕ → Bool
joins_below related zero i j = related i j
joins_below related (suc k) i j = joins_below related k i j || (joins_below related k i k && joins_below related k k j)

-- True if instance v reaches instance u.
unfoldable pub reaches : Document → ℕ → ℕ → Bool
reaches d v u = joins_below (depends_on d) (length d.instances) u v
