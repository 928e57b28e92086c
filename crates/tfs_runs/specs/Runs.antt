-- Successive runs, between which the journal is compacted.
use Rattle.std.specs.Prelude.{◌≡◌, ◌⊎◌, ◌+◌, ◌≤◌, ℕ, All, false, List, [], ◌∷◌, Option, flat_map, sum_by}
use Rattle.tfs_records.specs.Journal.{Journal, position_of}
use Rattle.tfs_calls.specs.Transition.{TableModel}
use Rattle.tfs_table.specs.Compact.{IsCompacted}
use Rattle.tfs_published.specs.Beginning.{BeginsWith}
use Rattle.tfs_serve.specs.Gate.{Event}
use Rattle.tfs_serve.specs.Hold.{IsDurable}
use Rattle.tfs_serve.specs.Serving.{ServedView, IsRun, answers_on}
use Rattle.tfs_serve.specs.Told.{positions_told, AreToldOnce}
use Rattle.tfs_serve.specs.Working.{Answer}

-- A run that returned: the journal that it left, whether its table is stopped, the outcomes of its
-- workers, and the positions that these reported, each with an accepted change.
pub record ReturnedRun : Type 0 where
  pub last : TableModel
  pub served : List ServedView
  pub positions : List ℕ

-- The positions that workers reported on their connections.
abbrev pub positions_on : List (List (List Answer)) → List ℕ
positions_on = flat_map (λ answers. positions_told (answers_on answers))

-- A run from an opening journal, whose bytes were durable before it. This was known of the events
-- that the gates of its workers had heard before. Before a byte of a reply was written, the bytes of
-- the journal that it was answered over were durable.
pub record IsReturnedRun (durable : ℕ → Type 0) (heard_before : Option (List Event) → Type 0) (opening : TableModel) (t : ReturnedRun) : Type 0 where
  pub told : List (Option (List Event))
  pub new : All heard_before told
  pub held : IsDurable durable opening.journal
  pub run : IsRun durable opening.journal t.last.journal opening.stopped t.last.stopped told t.served
  pub positions : t.positions ≡ positions_on run.connections

-- A run from an opening journal, by its last journal and the outcomes of its workers.
abbrev pub IsReturnedRunOf : (ℕ → Type 0) → (Option (List Event) → Type 0) → TableModel → TableModel → List ServedView → Type 0
IsReturnedRunOf durable heard_before opening last served =
    (positions : List ℕ) × IsReturnedRun durable heard_before opening (record { last = last; served = served; positions = positions })

-- A compaction of a journal that hasn't stopped into one that hasn't, whose bytes were durable before
-- it was put in place.
pub record IsCompaction (durable : ℕ → Type 0) (last next : TableModel) : Type 0 where
  pub compacted : IsCompacted last.journal next.journal
  pub held : IsDurable durable next.journal
  pub ran : last.stopped ≡ false
  pub runs : next.stopped ≡ false

-- The journal with which the next run opens: the compacted last journal or, if that wasn't put in
-- place, the last journal itself.
abbrev pub LeadsTo : (ℕ → Type 0) → TableModel → TableModel → Type 0
LeadsTo durable last next = IsCompaction durable last next ⊎ (next ≡ last)

-- Runs lead from one journal to another.
abbrev pub GoesBy : (ℕ → Type 0) → (Option (List Event) → Type 0) → TableModel → List ReturnedRun → TableModel → Type 0
GoesBy durable heard_before first [] now = now ≡ first
GoesBy durable heard_before first (t ∷ more) now =
    (next : TableModel) × IsReturnedRun durable heard_before first t × LeadsTo durable t.last next × GoesBy durable heard_before next more now

-- The number of changes that the workers of a run reported as accepted.
abbrev pub accepted_of : List ServedView → ℕ
accepted_of = sum_by (λ s. s.accepted)

-- The number of changes that the workers of all runs reported as accepted.
abbrev pub accepted_by_all : List ReturnedRun → ℕ
accepted_by_all = sum_by (λ t. accepted_of t.served)

-- The positions that the workers of all runs reported.
abbrev pub positions_of_all : List ReturnedRun → List ℕ
positions_of_all = flat_map (λ t. t.positions)

-- Some runs lead from one journal to another. Their workers reported this number of changes as
-- accepted, and each position between the two journals exactly once.
pub record GoesOn (durable : ℕ → Type 0) (heard_before : Option (List Event) → Type 0) (first now : TableModel) (accepted : ℕ) : Type 0 where
  pub runs : List ReturnedRun
  pub goes : GoesBy durable heard_before first runs now
  pub counts : accepted ≡ accepted_by_all runs
  pub once : AreToldOnce first.journal now.journal (positions_of_all runs)

-- After some runs, a journal begins with the one with which the next run opened, or would have
-- opened. The difference of the two counts is the number of changes that the workers of these runs
-- reported as accepted.
pub record EndsOn (durable : ℕ → Type 0) (heard_before : Option (List Event) → Type 0) (first : TableModel) (end : Journal) (before after : ℕ) : Type 0 where
  pub opening : TableModel
  pub accepted : ℕ
  pub goes : GoesOn durable heard_before first opening accepted
  pub begins : BeginsWith end opening.journal
  pub counts : after ≡ before + accepted

-- The last journal has positions for all changes between the two counts, which were reported as
-- accepted: at least that many positions follow the first journal's.
abbrev pub HoldsAll : Journal → Journal → ℕ → ℕ → Type 0
HoldsAll first last before after = position_of first + after ≤ position_of last + before

-- The last journal has positions for these changes and no others.
abbrev pub HoldsJust : Journal → Journal → ℕ → ℕ → Type 0
HoldsJust first last before after = position_of first + after ≡ position_of last + before

-- If the old journal begins with the one placed before, the new journal begins with the one placed
-- later.
abbrev pub StaysPlaced : Journal → Journal → Journal → Journal → Type 0
StaysPlaced old placed new later = BeginsWith old placed → BeginsWith new later
