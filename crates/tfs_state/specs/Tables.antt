-- The relation between the private tables of a document, which have numbers instead of texts, and
-- the document's instances.
use Rattle.std.specs.Prelude.{◌≡◌, ℕ, List, ◌++◌, slice_get, take, Some, Ok, string_bytes}
use Rattle.std.specs.List.{AllZip}
use Rattle.serde_json.specs.Data.{Data}
use Rattle.tfs_addr.specs.Address.{stripped_text, configuration_address, key_part, deposed_part}
use Rattle.tfs_state.specs.Digest.{digest_of}
use Rattle.tfs_state.specs.Document.{Instance}
use Rattle.tfs_state.specs.Names.{Extends}
use Rattle.tfs_state.specs.Packed.{ArePacked}
use Rattle.tfs_state.specs.Parts.{front_text}
use Rattle.tfs_state.specs.Resources.{Own, ResourceMembers, read_each, dependency_of, read_dependency, read_instance, read_resource, joined}
use Rattle.tfs_state.specs.declared.tables.Block.{Block}
use Rattle.tfs_state.specs.declared.tables.Row.{Row}
use Rattle.tfs_state.specs.declared.tables.Tables.{Tables}

-- The number represents the text without its keys.
pub record StandsForBare (names : List (List ℕ)) (n : ℕ) (text : List ℕ) : Type 0 where
  pub bare : List ℕ
  pub stripped : stripped_text text ≡ Some bare
  pub named : slice_get names n ≡ Some bare

-- The row represents an instance with these fields of its own, whose block is at index `place`.
pub record IsRowOf (names : List (List ℕ)) (place : ℕ) (row : Row) (own : Own) : Type 0 where
  pub block : row.block ≡ place
  pub tail : string_bytes row.tail ≡ key_part own.key ++ deposed_part own.deposed
  pub dependencies : AllZip (StandsForBare names) row.dependencies.items own.dependencies

-- The digests in the block are the digests of its texts.
pub record HasDigests (block : Block) : Type 0 where
  pub front : block.front_digest ≡ digest_of (string_bytes block.front)
  pub config : block.config_digest ≡ digest_of (string_bytes block.config)

-- The block represents a resource.
pub record IsBlockOf (names : List (List ℕ)) (block : Block) (r : ResourceMembers) : Type 0 where
  pub front : string_bytes block.front ≡ front_text r.path r.mode r.kind r.name
  pub config : configuration_address r.path r.mode r.kind r.name ≡ Some (string_bytes block.config)
  pub named : slice_get names block.number ≡ Some (string_bytes block.config)
  pub digests : HasDigests block

-- The row represents an instance, with the block at the row's index.
pub record StandsFor (names : List (List ℕ)) (blocks : List Block) (row : Row) (u : Instance) : Type 0 where
  pub block : Block
  pub placed : slice_get blocks row.block ≡ Some block
  pub front : string_bytes block.front ≡ front_text u.path u.mode u.kind u.name
  pub config : configuration_address u.path u.mode u.kind u.name ≡ Some (string_bytes block.config)
  pub named : slice_get names block.number ≡ Some (string_bytes block.config)
  pub digests : HasDigests block
  pub tail : string_bytes row.tail ≡ key_part u.key ++ deposed_part u.deposed
  pub dependencies : AllZip (StandsForBare names) row.dependencies.items u.dependencies

-- Rows represent the instances, each the instance at the same index, and the first 4,097 rows are
-- packed.
pub record Tabulates (tables : Tables) (instances : List Instance) : Type 0 where
  pub rows : List Row
  pub packed : ArePacked tables.packed (take 4097 rows)
  pub stand : AllZip (StandsFor tables.names tables.blocks.items) rows instances

-- ---- Results of the readers.

-- A dependency is read as a number.
pub record ReadsDependency (value : Data) (old new : List (List ℕ)) (n : ℕ) : Type 0 where
  pub text : List ℕ
  pub read : dependency_of value ≡ Some text
  pub grown : Extends old new
  pub stands : StandsForBare new n text

-- The dependencies of instance j of resource i are read as numbers.
pub record ReadsDependencies (i j : ℕ) (values : List Data) (old new : List (List ℕ)) (numbers : List ℕ) : Type 0 where
  pub texts : List (List ℕ)
  pub read : read_each (read_dependency i j) 0 values ≡ Ok texts
  pub grown : Extends old new
  pub stand : AllZip (StandsForBare new) numbers texts

-- Instance j of resource i is read as a row.
pub record ReadsInstance (i j place : ℕ) (value : Data) (old new : List (List ℕ)) (row : Row) : Type 0 where
  pub own : Own
  pub read : read_instance i j value ≡ Ok own
  pub grown : Extends old new
  pub stands : IsRowOf new place row own

-- The instances of resource i are read as rows, whose block will be at index `place`. The first
-- 4,097 rows of the document are packed.
pub record AddsInstances (i place : ℕ) (values : List Data) (old new : Tables) : Type 0 where
  pub owns : List Own
  pub read : read_each (read_instance i) 0 values ≡ Ok owns
  pub grown : Extends old.names new.names
  pub rows : List Row
  pub stand : AllZip (IsRowOf new.names place) rows owns
  pub blocks : new.blocks.items ≡ old.blocks.items
  pub packed : (first : List Row) → ArePacked old.packed (take 4097 first) → ArePacked new.packed (take 4097 (first ++ rows))

-- The own members of a resource are read as a block.
pub record ReadsBlock (r : ResourceMembers) (old new : List (List ℕ)) (block : Block) : Type 0 where
  pub grown : Extends old new
  pub stands : IsBlockOf new block r

-- Resource i is read, and its instances are added.
pub record ReadsResource (i : ℕ) (value : Data) (old new : Tables) : Type 0 where
  pub more : List Instance
  pub read : read_resource i value ≡ Ok more
  pub added : (us : List Instance) → Tabulates old us → Tabulates new (us ++ more)

-- The resources of a list are read.
pub record ReadsResources (values : List Data) (tables : Tables) : Type 0 where
  pub lists : List (List Instance)
  pub read : read_each read_resource 0 values ≡ Ok lists
  pub stand : Tabulates tables (joined lists)
