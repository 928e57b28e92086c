-- The reach of a change: the instances that texts name, and the instances that these reach.
use Rattle.std.specs.Prelude.{◌≡◌, ◌↔◌, ◌⊎◌, ℕ, ◌<◌, Bool, ◌&&◌, ◌||◌, nat_lt, if◌then◌else◌, List, []}
use Rattle.std.specs.Prelude.{◌∷◌, length, filter, position, Contains, Option, Some, option_map, ◌==◌}
use Rattle.std.specs.List.{list_any, list_all, range_with_len}
use Rattle.std.specs.List.Sorted.{IsStrictlyIncreasing}
use Rattle.tfs_state.specs.Document.{Document}
use Rattle.tfs_state.specs.Dependency.{address_of, config_of}
use Rattle.tfs_index.specs.Reach.{is_text, reaches, Reaches}
use Rattle.tfs_index.specs.declared.fault.ImpactFault.{ImpactFault}
use Rattle.tfs_index.specs.declared.fault.ImpactFault.TheVariants.{NoAddress, TooManyAddresses, UnknownAddress}

-- True if a text is the address or the configuration address of instance v.
unfoldable pub names : Document → List ℕ → ℕ → Bool
names d text v = is_text (address_of d v) text || is_text (config_of d v) text

-- The numbers of a document's instances, in ascending order.
abbrev pub instance_numbers : Document → List ℕ
instance_numbers d = range_with_len 0 (length d.instances)

-- The instances that a text names, in ascending order.
unfoldable pub named_by : Document → List ℕ → List ℕ
named_by d text = filter (names d text) (instance_numbers d)

-- True if an instance that the text names reaches instance u.
unfoldable pub is_reached : Document → List ℕ → ℕ → Bool
is_reached d text u = list_any (λ v. reaches d v u) (named_by d text)

-- True if an instance that passes a test, and that the text names, reaches instance u.
unfoldable pub is_reached_from : Document → List ℕ → (ℕ → Bool) → ℕ → Bool
is_reached_from d text passes u = list_any (λ v. passes v && (names d text v && reaches d v u)) (instance_numbers d)

-- The instances that are reached from an instance that any of the texts names, in ascending order.
unfoldable pub any_impact : Document → List (List ℕ) → List ℕ
any_impact d texts = filter (λ u. list_any (λ text. is_reached d text u) texts) (instance_numbers d)

-- The instances that are reached, for each text, from an instance that it names, in ascending
-- order.
unfoldable pub all_impact : Document → List (List ℕ) → List ℕ
all_impact d texts = filter (λ u. list_all (λ text. is_reached d text u) texts) (instance_numbers d)

-- True if a text names no instance.
unfoldable pub is_unknown : Document → List ℕ → Bool
is_unknown d text = length (named_by d text) == 0

-- The first fault of a query's texts.
unfoldable pub query_fault : Document → List (List ℕ) → Option ImpactFault
query_fault d [] = Some NoAddress
query_fault d (text ∷ texts) =
    if nat_lt 64 (length (text ∷ texts)) then Some TooManyAddresses else option_map UnknownAddress (position (is_unknown d) (text ∷ texts))

-- ---- The same as relations.

-- The text names instance v: it is the address or the configuration address of v.
abbrev pub Names : Document → List ℕ → ℕ → Type 0
Names d text v = (address_of d v ≡ Some text) ⊎ (config_of d v ≡ Some text)

-- An instance that the text names reaches instance u.
pub record IsReached (d : Document) (text : List ℕ) (u : ℕ) : Type 0 where
  pub from : ℕ
  pub named : Names d text from
  pub reaches : Reaches d from u

-- One of the texts names an instance that reaches instance u.
pub record IsReachedBySome (d : Document) (texts : List (List ℕ)) (u : ℕ) : Type 0 where
  pub text : List ℕ
  pub given : Contains texts text
  pub reached : IsReached d text u

-- There is an instance u, and each of the texts names an instance that reaches it.
pub record IsReachedByEach (d : Document) (texts : List (List ℕ)) (u : ℕ) : Type 0 where
  pub within : u < length d.instances
  pub reached : (text : List ℕ) → Contains texts text → IsReached d text u

-- The list has each number that satisfies the property, once and in ascending order, and no other.
pub record IsRisingListOf (IsThere : ℕ → Type 0) (numbers : List ℕ) : Type 0 where
  pub rises : IsStrictlyIncreasing numbers
  pub members : (u : ℕ) → Contains numbers u ↔ IsThere u
