-- The addresses of a document's instances, and the dependencies between instances.
use Rattle.std.specs.Prelude.{◌≡◌, ℕ, List, slice_get, Option, Some, option_and_then, option_map}
use Rattle.tfs_addr.specs.Address.{stripped_text, configuration_address, instance_address}
use Rattle.tfs_state.specs.Document.{Instance, Document}

-- The configuration address of an instance.
abbrev pub instance_config : Instance → Option (List ℕ)
instance_config u = configuration_address u.path u.mode u.kind u.name

-- The configuration address of instance i, or None if there is no such instance.
abbrev pub config_of : Document → ℕ → Option (List ℕ)
config_of d i = option_and_then instance_config (slice_get d.instances i)

-- The address of instance i, or None if there is no such instance.
abbrev pub address_of : Document → ℕ → Option (List ℕ)
address_of d i = option_map
    (λ u. instance_address u.path u.mode u.kind u.name u.key u.deposed) (slice_get d.instances i)

-- Instance u depends on instance v: u has a dependency text that, once stripped, equals the
-- configuration address of v.
pub record DependsOn (d : Document) (u v : ℕ) : Type 0 where
  pub instance : Instance
  pub found : slice_get d.instances u ≡ Some instance
  pub text : List ℕ
  pub place : ℕ
  pub listed : slice_get instance.dependencies place ≡ Some text
  pub address : List ℕ
  pub stripped : stripped_text text ≡ Some address
  pub same : config_of d v ≡ Some address
