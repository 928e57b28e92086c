-- Metrics of a journal, for monitoring.
use Rattle.std.specs.Prelude.{◌≡◌, ℕ, List, length, is_some, if◌then◌else◌}
use Rattle.std.specs.List.{sum_by}
use Rattle.std.specs.Option.{option_map_or}
use Rattle.tfs_rules.specs.History.{state_of, holder_of}
use Rattle.tfs_records.specs.Journal.{Journal, acts_of, names_of, position_of}
use Rattle.tfs_versions.specs.Holding.{IsEarliest, lock_times}
use Rattle.tfs_versions.specs.declared.counts.Measures.{Measures}

-- The number of instances in the state of a name; 0 without a state.
abbrev pub instances_at : Journal → List ℕ → ℕ
instances_at j name = option_map_or (λ d. length d.instances) (state_of (acts_of name j)) 0

-- 1 if the lock of a name is held, and 0 otherwise.
abbrev pub lock_at : Journal → List ℕ → ℕ
lock_at j name = if is_some (holder_of (acts_of name j)) then 1 else 0

-- The number of instances of all names.
abbrev pub instances_of : Journal → ℕ
instances_of j = sum_by (instances_at j) (names_of j)

-- The number of locks that are held.
abbrev pub locks_of : Journal → ℕ
locks_of j = sum_by (lock_at j) (names_of j)

-- The metrics of a journal whose file has this many bytes.
pub record IsMeasured (bytes : ℕ) (j : Journal) (m : Measures) : Type 0 where
  pub bytes_are : m.bytes ≡ bytes
  pub entries : m.entries ≡ length j.entries
  pub position : m.position ≡ position_of j
  pub names : m.names ≡ length (names_of j)
  pub instances : m.instances ≡ instances_of j
  pub locks : m.locks ≡ locks_of j
  pub oldest_lock : IsEarliest (lock_times j) m.oldest_lock
