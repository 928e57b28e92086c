-- The workspaces of a table, and the journal that they represent.
use Rattle.std.specs.Prelude.{◌≡◌, ◌+◌, ℕ, List, ◌∷◌, ◌++◌, [], length, map, Bool, true, Some, None, is_some, option_map, nat_eq, slice_get, All}
use Rattle.std.specs.Arc.{arc_value}
use Rattle.std.specs.Cmp.Lexicographic.{slice_cmp}
use Rattle.std.specs.List.{AllByRecursion, find, list_any}
use Rattle.std.specs.List.Sorted.{IsStrictlySortedBy}
use Rattle.std.specs.Option.{option_map_or}
use Rattle.std.specs.Ordering.{nat_cmp}
use Rattle.std.specs.declared.cmp.Ordering.TheVariants.{Less}
use Rattle.std.specs.Result.{MatchResult}
use Rattle.std.specs.Prelude.{Result}
use Rattle.std.specs.Str.{bytes_eq}
use Rattle.tfs_rules.specs.History.{Standing, standing_of}
use Rattle.tfs_records.specs.Journal.{Journal, RowValue, acts_of, names_of}
use Rattle.tfs_table.specs.declared.workspace.Workspace.{Workspace}

-- The workspace has this name.
abbrev pub is_of : List ℕ → Workspace → Bool
is_of name w = bytes_eq w.name name

-- The state and holder of a name, by its workspace or, if it has none, by an empty history.
abbrev pub standing_at : List ℕ → List Workspace → Standing
standing_at name ws = option_map_or (λ (w : Workspace). w.standing) (find (is_of name) ws) (standing_of [])

-- The row that a base has for a workspace.
abbrev pub row_of : Workspace → RowValue
row_of w = record { name = w.name; holder = w.standing.holder; state = w.standing.state }

-- The names of the workspaces rise strictly, by their bytes.
abbrev pub Rise : List Workspace → Type 0
Rise ws = IsStrictlySortedBy (slice_cmp nat_cmp) (map (λ (w : Workspace). w.name) ws)

-- The workspace has this number.
abbrev pub has_number : ℕ → Workspace → Bool
has_number number w = nat_eq w.number number

-- The workspace's number, from 0, is the index of its name among these names.
abbrev pub IsNumbered : List (List ℕ) → Workspace → Type 0
IsNumbered names w = slice_get names w.number ≡ Some w.name

-- The workspaces have consecutive numbers from `n` on.
abbrev pub AreNumberedFrom : ℕ → List Workspace → Type 0
AreNumberedFrom n [] = Unit {0}
AreNumberedFrom n (w ∷ ws) = (w.number ≡ n) × AreNumberedFrom (n + 1) ws

-- The workspaces of a journal: sorted by name, they have its names with their numbers, and the
-- state and holder that it gives each name.
pub record AreWorkspacesOf (j : Journal) (ws : List Workspace) : Type 0 where
  pub standings : (name : List ℕ) → standing_at name ws ≡ standing_of (acts_of name j)
  pub names : (name : List ℕ) → is_some (find (is_of name) ws) ≡ list_any (bytes_eq name) (names_of j)
  pub count : length ws ≡ length (names_of j)
  pub rise : Rise ws
  pub numbers : All (IsNumbered (names_of j)) ws

-- A workspace has a version exactly if it has a state, and then the version of that state.
abbrev pub HasVersion : Workspace → Type 0
HasVersion w = option_map arc_value w.version ≡ w.standing.state

-- The workspace of a name has this index.
pub record IsPlaceOf (name : List ℕ) (ws : List Workspace) (place : ℕ) : Type 0 where
  pub before : List Workspace
  pub own : Workspace
  pub after : List Workspace
  pub parts : ws ≡ before ++ own ∷ after
  pub at : length before ≡ place
  pub named : is_of name own ≡ true
  pub first : find (is_of name) before ≡ None

-- A name has no workspace, and one at this index keeps the names rising.
pub record IsGapFor (name : List ℕ) (ws : List Workspace) (place : ℕ) : Type 0 where
  pub before : List Workspace
  pub after : List Workspace
  pub parts : ws ≡ before ++ after
  pub at : length before ≡ place
  pub absent : find (is_of name) ws ≡ None
  pub below : AllByRecursion (λ other. slice_cmp nat_cmp other name ≡ Less) (map (λ (w : Workspace). w.name) before)
  pub above : AllByRecursion (λ other. slice_cmp nat_cmp name other ≡ Less) (map (λ (w : Workspace). w.name) after)

-- The result of a search for a name: the index of its workspace, or the index at which to insert
-- one.
abbrev pub IsFound : List ℕ → List Workspace → Result ℕ ℕ → Type 0
IsFound name ws place = MatchResult place (IsPlaceOf name ws) (IsGapFor name ws)
