-- Lemmas about the addresses of instances.
use Rattle.std.proofs.Common.{◌≡◌, ℕ, ◌<◌, List, length, option_map, Option, Some, None, refl}
use Rattle.std.specs.List.{slice_get}
use Rattle.std.proofs.lemmas.Option.{slice_get_within}
use Rattle.tfs_addr.specs.Address.{instance_address}
use Rattle.tfs_state.specs.Document.{Document, Instance}
use Rattle.tfs_state.specs.Dependency.{address_of}

-- A number that has an address is the number of an instance.
pub address_within : (d : Document) (v : ℕ) (text : List ℕ) → address_of d v ≡ Some text → v < length d.instances
address_within d v text is =
    elim (slice_get d.instances v) as (λ o. slice_get d.instances v ≡ o
    → option_map (λ (u : Instance). instance_address u.path u.mode u.kind u.name u.key u.deposed) o ≡ Some text → v < length d.instances) [
      | Some instance ↦ λ found e. slice_get_within d.instances v instance found
      | None ↦ λ found e. cc
    ] refl is
