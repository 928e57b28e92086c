-- The names added so far.
use Rattle.std.proofs.Common.{◌≡◌, map, filter, take, string_bytes}
use Rattle.tfs_records.specs.Journal.{names_of}
use Rattle.tfs_reports.specs.Names.{is_listed}
use Rattle.tfs_reports.proofs.names.names_numbered.Given as goal

abbrev pub invariant-loop-number : goal.invariant-loop-number
invariant-loop-number g l = map string_bytes l.names.items
    ≡ filter (is_listed l.table.journal l.is_held_only) (take l.number (names_of l.table.journal))
