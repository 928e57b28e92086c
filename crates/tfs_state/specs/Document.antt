-- The state document: the content of a state text, with the text itself.
use Rattle.std.specs.Prelude.{ℕ, List, Option}
use Rattle.tfs_addr.specs.Address.{InstanceKey}
use Rattle.tfs_addr.specs.declared.resource.Mode.{Mode}

-- A resource instance. The first four fields are its resource's: the path of the module, which is
-- empty for the root module, the mode, the type and the name. `dependencies` are the unchanged
-- texts.
pub record Instance : Type 0 where
  pub path : List ℕ
  pub mode : Mode
  pub kind : List ℕ
  pub name : List ℕ
  pub key : Option InstanceKey
  pub deposed : Option (List ℕ)
  pub dependencies : List (List ℕ)

-- A state of version 4. `bytes` is its unchanged text, `lineage` is its lineage in UTF-8, and the
-- instances are in the order of the text.
pub record Document : Type 0 where
  pub bytes : List ℕ
  pub serial : ℕ
  pub lineage : List ℕ
  pub instances : List Instance
