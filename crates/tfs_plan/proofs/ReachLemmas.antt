-- Lemmas about the instances that changed ones reach.
use Rattle.std.proofs.Common.{◌≡◌, ℕ, ◌<◌, Bool, true, false, length, refl}
use Rattle.tfs_planes.proofs.WalkLemmas.{chain_of_joins, end_of_chain}
use Rattle.tfs_state.specs.Document.{Document}
use Rattle.tfs_state.specs.Dependency.{DependsOn}
use Rattle.tfs_index.specs.Reach.{reaches}
use Rattle.tfs_index.proofs.ReachLemmas.{reach_told, target_within}

-- Only instances reach others.
pub reaches_within : (d : Document) (v u : ℕ) → reaches d v u ≡ true → v < length d.instances
reaches_within d v u is =
    let chain = chain_of_joins (DependsOn d) u v ((reach_told d v u).0 is) in
    let last = end_of_chain (DependsOn d) u v chain.0 chain.1 in
    target_within d last.0 v last.1

-- A number beyond the last instance reaches none.
pub reaches_beyond : (d : Document) (v u : ℕ) → (v < length d.instances → ⊥) → false ≡ reaches d v u
reaches_beyond d v u beyond =
    elim (reaches d v u) as (λ b. reaches d v u ≡ b → false ≡ b) [
      | true ↦ λ is. absurd (beyond (reaches_within d v u is))
      | false ↦ λ is. refl
    ] refl
