-- The results of the private readers of one level, as values of the definitions of that level.
use Rattle.std.specs.Prelude.{ℕ, List, ◌++◌, map, option_map, option_copied}
use Rattle.tfs_json.specs.Tree.{tree_view as view}
use Rattle.tfs_addr.specs.Address.{key_of, module_part, resource_part}
use Rattle.tfs_addr.specs.declared.resource.Mode.{Mode}
use Rattle.tfs_state.specs.Resources.{InstanceMembers, ResourceMembers}
use Rattle.tfs_state.specs.declared.instance.InstanceParts.{InstanceParts}
use Rattle.tfs_state.specs.declared.resource.ResourceParts.{ResourceParts}

-- The own members of an instance, without their location in memory.
abbrev pub instance_view : InstanceParts → InstanceMembers
instance_view parts = record {
  key = option_map key_of parts.key;
  deposed = option_copied parts.deposed;
  dependencies = map view parts.dependencies.now;
}

-- The own members of a resource, without their location in memory.
abbrev pub resource_view : ResourceParts → ResourceMembers
resource_view parts = record {
  path = parts.path.now;
  mode = parts.mode;
  kind = parts.kind.now;
  name = parts.name.now;
  instances = map view parts.instances.now;
}

-- The beginning of the addresses of a resource's instances.
abbrev pub front_text : List ℕ → Mode → List ℕ → List ℕ → List ℕ
front_text path mode kind name = module_part path path ++ resource_part mode kind name
