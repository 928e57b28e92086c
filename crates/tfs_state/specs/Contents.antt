-- The relation between the private parts of a document and the document's text.
use Rattle.std.specs.Prelude.{◌≡◌, ℕ, ◌≤◌, List, length, Ok, string_bytes}
use Rattle.std.specs.List.{AllZip}
use Rattle.serde_json.specs.Data.{Data}
use Rattle.tfs_state.specs.Document.{Instance}
use Rattle.tfs_state.specs.Names.{AreApart}
use Rattle.tfs_state.specs.StateText.{content_of, text_content, instances_of}
use Rattle.tfs_state.specs.StateText as text
use Rattle.tfs_state.specs.Packed.{ArePacked}
use Rattle.tfs_state.specs.Tables.{StandsFor}
use Rattle.tfs_state.specs.declared.content.Content.{Content}
use Rattle.tfs_state.specs.declared.tables.Block.{Block}
use Rattle.tfs_state.specs.declared.tables.Row.{Row}
use Rattle.tfs_state.specs.declared.tables.Tables.{Tables}

-- Each row represents the instance at the same index, for some list of texts that its numbers refer
-- to.
pub record Stand (blocks : List Block) (rows : List Row) (instances : List Instance) : Type 0 where
  pub names : List (List ℕ)
  pub apart : AreApart names
  pub each : AllZip (StandsFor names blocks) rows instances

-- The parts represent a content: they have its serial and its lineage, and their rows represent its
-- instances.
pub record Holds (parts : Content) (content : text.Content) : Type 0 where
  pub serial : content.serial ≡ parts.serial
  pub lineage : content.lineage ≡ string_bytes parts.lineage
  pub limit : length content.instances ≤ 4096
  pub rows : List Row
  pub packed : ArePacked parts.packed rows
  pub stand : Stand parts.blocks.items rows content.instances

-- The value has a content, and the parts represent it.
pub record ReadsContent (value : Data) (parts : Content) : Type 0 where
  pub content : text.Content
  pub read : content_of value ≡ Ok content
  pub holds : Holds parts content

-- The bytes are a text of at most 16 MiB, and the parts represent its content.
pub record Keeps (bytes : List ℕ) (parts : Content) : Type 0 where
  pub size : length bytes ≤ 16777216
  pub content : text.Content
  pub read : text_content bytes ≡ Ok content
  pub holds : Holds parts content

-- The value has at most 4,096 instances, and the tables represent them.
pub record ReadsInstancesOf (value : Data) (tables : Tables) : Type 0 where
  pub instances : List Instance
  pub read : instances_of value ≡ Ok instances
  pub limit : length instances ≤ 4096
  pub rows : List Row
  pub packed : ArePacked tables.packed rows
  pub stand : Stand tables.blocks.items rows instances
