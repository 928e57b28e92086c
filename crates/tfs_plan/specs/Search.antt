-- The search for the instances that changed ones reach, in memory.
use Rattle.std.specs.Prelude.{◌≡◌, ℕ, ◌+◌, ◌<◌, ◌≤◌, List, length, slice_get, sum_by, Bool, true, false, Some}
use Rattle.tfs_state.specs.Document.{Document}
use Rattle.tfs_state.specs.Dependency.{DependsOn}
use Rattle.tfs_plan.specs.Chains.{AreChains}
use Rattle.tfs_plan.specs.declared.chain.Step.{Step}
use Rattle.tfs_plan.specs.declared.chain.Found.{Found}

-- Instance u has a step.
abbrev pub HasStep : List Step → ℕ → Type 0
HasStep steps u = (k : ℕ) × (s : Step) × (slice_get steps k ≡ Some s) × (s.instance ≡ u)

-- The changed instance with an index has a step, if the state has the instance.
abbrev pub HasStart : Document → List ℕ → List Step → ℕ → Type 0
HasStart d starts steps i = (v : ℕ) → slice_get starts i ≡ Some v → v < length d.instances → HasStep steps v

-- Each step keeps its place.
abbrev pub Extends : List Step → List Step → Type 0
Extends old new = (k : ℕ) (s : Step) → slice_get old k ≡ Some s → slice_get new k ≡ Some s

-- For each step below a place: the instances that depend on its instance have steps.
abbrev pub AreClosed : Document → List Step → ℕ → Type 0
AreClosed d steps below =
    (k : ℕ) (s : Step) (u : ℕ) → k < below → slice_get steps k ≡ Some s → DependsOn d u s.instance → HasStep steps u

-- 1 for an instance without a step.
abbrev pub unfound : Bool → ℕ
unfound true = 0
unfound false = 1

-- The number of instances without a step.
abbrev pub left : List Bool → ℕ
left marks = sum_by unfound marks

-- The search has found these steps; those below a place are closed.
pub record IsSearch (d : Document) (starts : List ℕ) (below : ℕ) (found : Found) : Type 0 where
  pub chains : AreChains d starts found.steps.items
  pub place : below ≤ length found.steps.items
  pub closed : AreClosed d found.steps.items below
  pub marked : (u : ℕ) → slice_get found.is_found.items u ≡ Some true → HasStep found.steps.items u
  pub size : length found.is_found.items ≡ length d.instances
  pub count : length found.steps.items + left found.is_found.items ≡ length d.instances

-- A search continues: what it had found is kept.
pub record Grows (d : Document) (starts : List ℕ) (old new : Found) : Type 0 where
  pub search : (below : ℕ) → IsSearch d starts below old → IsSearch d starts below new
  pub longer : Extends old.steps.items new.steps.items

-- The steps are those of all changed instances, and of all that depend on an instance of a step.
pub record AreWhole (d : Document) (starts : List ℕ) (steps : List Step) : Type 0 where
  pub chains : AreChains d starts steps
  pub started : (i : ℕ) → HasStart d starts steps i
  pub closed : AreClosed d steps (length steps)
