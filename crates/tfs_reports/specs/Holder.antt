-- The lock information of a workspace, as `holder` prints it.
use Rattle.std.specs.Prelude.{◌≡◌, ◌⊎◌, ℕ, List, ◌++◌, codes, chars, false, true}
use Rattle.std.specs.Prelude.{Some, None, is_some}
use Rattle.std.specs.List.{flat_map}
use Rattle.json.specs.Json.{Json, document}
use Rattle.json.specs.Print.{print}
use Rattle.json.specs.Tree.{json_tokens}
use Rattle.tfs_printed.specs.Printed.{json}
use Rattle.tfs_lock.specs.LockInfo.{LockInformation}
use Rattle.tfs_rules.specs.History.{holder_of}
use Rattle.tfs_records.specs.Journal.{Journal, acts_of}
use Rattle.tfs_versions.specs.Told.{has_name}
use Rattle.tfs_files.specs.declared.fault.CommandFault.TheVariants.{OutOfMemory}
use Rattle.tfs_reports.specs.declared.fault.ReportFault.{ReportFault}
use Rattle.tfs_reports.specs.declared.fault.ReportFault.TheVariants.{Files, NoName, NotLocked}

-- The line of a JSON value: its compact text with unprintable characters escaped.
abbrev pub IsPrinted : List ℕ → List ℕ → Type 0
IsPrinted bytes line = (j : Json) × (document bytes ≡ Some j)
    × (line ≡ flat_map json (chars (print (json_tokens j))) ++ codes "\n")

-- The line of a workspace's lock information.
abbrev pub IsHolderOf : List ℕ → Journal → List ℕ → Type 0
IsHolderOf name j line = (info : LockInformation) × (holder_of (acts_of name j) ≡ Some info)
    × IsPrinted info.bytes line

-- The faults without a line: the journal has no workspace of this name, nobody holds its lock, or
-- memory ran out.
abbrev pub IsHolderFault : List ℕ → Journal → ReportFault → Type 0
IsHolderFault name j fault = ((fault ≡ NoName) × (has_name name j ≡ false))
    ⊎ (((fault ≡ NotLocked) × (has_name name j ≡ true) × (holder_of (acts_of name j) ≡ None))
    ⊎ ((fault ≡ Files OutOfMemory) × (is_some (holder_of (acts_of name j)) ≡ true)))
