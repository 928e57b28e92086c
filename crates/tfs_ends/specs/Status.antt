-- The exit statuses of the program.
use Rattle.std.specs.Prelude.{ℕ}
use Rattle.tfs_conversation.specs.declared.ended.Ended.{Ended}
use Rattle.tfs_conversation.specs.declared.ended.Ended.TheVariants.{Clean, Cut, Asked, Refused}
use Rattle.tfs_conversation.specs.declared.check.RunFault.{RunFault}
use Rattle.tfs_conversation.specs.declared.check.RunFault.TheVariants.{Write, NoMemory, Opening}
use Rattle.tfs_table.specs.declared.fault.OpenFault.{OpenFault}
use Rattle.tfs_table.specs.declared.fault.OpenFault.TheVariants as open_fault

-- The status for the end of a conversation that no fault ended.
abbrev pub status_of : Ended → ℕ
status_of Clean = 0
status_of Asked = 0
status_of Cut = 3
status_of Refused = 4

-- The status for the reason why no table was opened.
abbrev pub opening_status : OpenFault → ℕ
opening_status open_fault.TornBase = 3
opening_status (open_fault.Damaged at) = 4
opening_status (open_fault.Unlawful number) = 5
opening_status open_fault.SinkFault = 1
opening_status open_fault.NoMemory = 1
opening_status open_fault.TooFar = 1

-- The status for a fault of a command that reads a journal.
abbrev pub fault_status : RunFault → ℕ
fault_status Write = 1
fault_status NoMemory = 1
fault_status (Opening why) = opening_status why
