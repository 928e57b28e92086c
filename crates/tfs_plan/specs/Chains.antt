-- Chains of dependencies from instances back to changed ones.
use Rattle.std.specs.Prelude.{◌≡◌, ℕ, ◌+◌, ◌-◌, ◌<◌, ◌⊎◌, List, length, slice_get, slice_index, Contains, Option, None, Some}
use Rattle.tfs_state.specs.Document.{Document}
use Rattle.tfs_state.specs.Dependency.{DependsOn}
use Rattle.tfs_index.specs.Reach.{Reaches}
use Rattle.tfs_plan.specs.declared.chain.Step.{Step}

-- The list begins with instance u, and each of its instances depends on the next.
pub record IsPath (d : Document) (u : ℕ) (path : List ℕ) : Type 0 where
  pub some : 0 < length path
  pub begins : slice_index path 0 ≡ u
  pub depends : (k : ℕ) → k + 1 < length path → DependsOn d (slice_index path k) (slice_index path (k + 1))

-- The list is a chain of instance u: a path from u whose last instance is among the changed ones.
pub record LeadsBack (d : Document) (starts : List ℕ) (u : ℕ) (chain : List ℕ) : Type 0 where
  pub path : IsPath d u chain
  pub changed : Contains starts (slice_index chain (length chain - 1))

-- Instance u is changed, or a change of a changed instance reaches it.
abbrev pub IsLed : Document → List ℕ → ℕ → Type 0
IsLed d starts u = (u < length d.instances) × (Contains starts u ⊎ ((v : ℕ) × Contains starts v × Reaches d v u))

-- ---- In memory.

-- Step k is that of a changed instance, or its instance depends on that of an earlier step.
abbrev pub Follows : Document → List ℕ → List Step → ℕ → ℕ → Option ℕ → Type 0
Follows d starts steps k u None = Contains starts u
Follows d starts steps k u (Some j) = (j < k) × ((t : Step) → slice_get steps j ≡ Some t → DependsOn d u t.instance)

-- Each step is of an instance of the state, and follows.
pub record AreChains (d : Document) (starts : List ℕ) (steps : List Step) : Type 0 where
  pub within : (k : ℕ) (s : Step) → slice_get steps k ≡ Some s → s.instance < length d.instances
  pub follows : (k : ℕ) (s : Step) → slice_get steps k ≡ Some s → Follows d starts steps k s.instance s.before
