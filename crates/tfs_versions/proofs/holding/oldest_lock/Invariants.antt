-- The time is the earliest of the names so far.
use Rattle.std.proofs.Common.{take}
use Rattle.std.specs.List.{filter_map}
use Rattle.tfs_records.specs.Journal.{names_of}
use Rattle.tfs_versions.specs.Holding.{IsEarliest, taken_at}
use Rattle.tfs_versions.proofs.holding.oldest_lock.Given as goal

abbrev pub invariant-loop-number : goal.invariant-loop-number
invariant-loop-number g l = IsEarliest (filter_map (taken_at l.table.journal) (take l.number (names_of l.table.journal))) l.oldest
