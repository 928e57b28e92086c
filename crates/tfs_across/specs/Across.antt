-- The workspaces that read outputs of a workspace, directly or through others.
use Rattle.std.specs.Prelude.{◌≡◌, ◌≢◌, ℕ, ◌<◌, ◌≤◌, Bool, false, List, length, position, Contains, Option, Some, None}
use Rattle.std.specs.List.{list_any, slice_get}
use Rattle.std.specs.Option.{option_map_or}
use Rattle.std.specs.Str.{bytes_eq}
use Rattle.std.specs.FinSet.{contains}
use Rattle.tfs_planes.specs.Relation.{Relation}
use Rattle.tfs_planes.specs.Walk.{Joins}
use Rattle.tfs_state.specs.Document.{Document}
use Rattle.tfs_index.specs.Impact.{IsRisingListOf}
use Rattle.tfs_across.specs.Reads.{names_read}
use Rattle.tfs_across.specs.declared.fault.AcrossFault.{AcrossFault}
use Rattle.tfs_across.specs.declared.fault.AcrossFault.TheVariants.{UnknownName, TooManyWorkspaces, NoMemory}

-- A workspace: its name, and its newest state.
pub record WorkspaceValue : Type 0 where
  pub name : List ℕ
  pub document : Document

-- The number of the first workspace of a name, counted from 0.
abbrev pub number_of : List ℕ → List WorkspaceValue → Option ℕ
number_of name ws = position (λ w. bytes_eq w.name name) ws

-- Workspace i reads workspace j: the state of i names j. A workspace may read itself.
pub record Reads (ws : List WorkspaceValue) (i j : ℕ) : Type 0 where
  pub reader : WorkspaceValue
  pub found : slice_get ws i ≡ Some reader
  pub source : WorkspaceValue
  pub named : slice_get ws j ≡ Some source
  pub listed : Contains (names_read reader.document) source.name

-- The workspaces from which a workspace of this name is read: `direct` has those whose own state
-- names it, and `all` those from which a walk of such pairs leads to it. Both are in the order of
-- the workspaces, each once. There are at most 4,096 workspaces.
pub record AreReaders (ws : List WorkspaceValue) (name : List ℕ) (direct all : List ℕ) : Type 0 where
  pub few : length ws ≤ 4096
  pub number : ℕ
  pub named : number_of name ws ≡ Some number
  pub naming : IsRisingListOf (λ i. Reads ws i number) direct
  pub leading : IsRisingListOf (λ i. Joins (Reads ws) i number) all

-- Why the readers aren't found. Each input has one cause: memory is the cause only if the name and
-- the number of workspaces aren't.
abbrev pub IsCause : List WorkspaceValue → List ℕ → AcrossFault → Type 0
IsCause ws name UnknownName = number_of name ws ≡ None
IsCause ws name TooManyWorkspaces = (number_of name ws ≢ None) × (4096 < length ws)
IsCause ws name NoMemory = (number_of name ws ≢ None) × (length ws ≤ 4096)

-- ---- The same as a test.

-- Workspace j has one of these names.
abbrev pub is_named : List WorkspaceValue → List (List ℕ) → ℕ → Bool
is_named ws names j = option_map_or (λ (source : WorkspaceValue). list_any (bytes_eq source.name) names) (slice_get ws j) false

-- Workspace i reads workspace j.
unfoldable pub reads : List WorkspaceValue → ℕ → ℕ → Bool
reads ws i j = option_map_or (λ (reader : WorkspaceValue). is_named ws (names_read reader.document) j) (slice_get ws i) false

-- The plane relates each workspace to its readers.
pub record HasReaders (ws : List WorkspaceValue) (plane : Relation) : Type 0 where
  pub size : plane.size ≡ length ws
  pub pairs : (v w : ℕ) → contains plane.pairs (v, w) ≡ reads ws w v
