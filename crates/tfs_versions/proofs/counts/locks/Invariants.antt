-- The sum is that of the names so far.
use Rattle.std.proofs.Common.{◌≡◌, ◌≤◌, take}
use Rattle.std.specs.List.{sum_by}
use Rattle.tfs_records.specs.Journal.{names_of}
use Rattle.tfs_versions.specs.Counts.{lock_at}
use Rattle.tfs_versions.proofs.counts.locks.Given as goal

abbrev pub invariant-loop-number : goal.invariant-loop-number
invariant-loop-number g l = record {
  told : l.count ≡ sum_by (lock_at l.table.journal) (take l.number (names_of l.table.journal));
  most : l.count ≤ l.number;
}
