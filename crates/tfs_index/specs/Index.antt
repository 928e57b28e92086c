-- The index of a document.
use Rattle.std.specs.Prelude.{◌≡◌, ℕ, ◌↔◌, length, Option, None, Some}
use Rattle.std.specs.FinSet.{contains}
use Rattle.tfs_planes.specs.Relation.{Relation, Relates}
use Rattle.tfs_state.specs.Document.{Document}
use Rattle.tfs_index.specs.declared.index.Index.{Index}
use Rattle.tfs_index.specs.Directory.{IsDirectory}
use Rattle.tfs_index.specs.Reach.{Reaches, depends_on}

-- The plane relates each instance to the instances that depend on it.
pub record HasDependents (d : Document) (plane : Relation) : Type 0 where
  pub size : plane.size ≡ length d.instances
  pub pairs : (v u : ℕ) → contains plane.pairs (v, u) ≡ depends_on d u v

-- The plane relates each instance to the instances that it reaches.
pub record HasReached (d : Document) (plane : Relation) : Type 0 where
  pub size : plane.size ≡ length d.instances
  pub walks : (v u : ℕ) → Relates plane v u ↔ Reaches d v u

-- A document's index: what each instance reaches, and the lookup of the instances that a text may
-- name.
pub record IsIndex (d : Document) (index : Index) : Type 0 where
  pub plane : HasReached d index.plane
  pub directory : IsDirectory d index.directory

-- A document without instances has no index; any other document has its index.
abbrev pub HasIndex : Document → Option Index → Type 0
HasIndex d None = length d.instances ≡ 0
HasIndex d (Some index) = IsIndex d index
