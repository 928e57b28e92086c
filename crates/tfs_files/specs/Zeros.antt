-- At which fault zeros at the end of a journal are looked for, and which bytes of the journals are
-- read if they are cut.
use Rattle.std.specs.Prelude.{ℕ, ◌==◌, Option, None, Some, if◌then◌else◌}
use Rattle.tfs_files.specs.declared.fault.CommandEnd.{CommandEnd}
use Rattle.tfs_files.specs.declared.fault.CommandFault.{CommandFault}
use Rattle.tfs_files.specs.declared.fault.CommandFault.TheVariants as fault
use Rattle.tfs_files.specs.declared.fault.FaultPlace.{FaultPlace}
use Rattle.tfs_files.specs.declared.fault.FaultPlace.TheVariants as place
use Rattle.tfs_files.specs.declared.zeros.Damage.{Damage}
use Rattle.tfs_files.specs.declared.zeros.Zeros.{Zeros}

-- The damaged journal, by the subject and the fault: only a journal of the folder itself.
abbrev pub damage_by : FaultPlace → CommandFault → Option Damage
damage_by (place.Journal number) (fault.Damaged at) = Some (record { number = number; at = at })
damage_by unsaid otherwise = None

-- The folder's damaged journal, if a command ended because of it.
abbrev pub damage_of : CommandEnd → Option Damage
damage_of end = damage_by end.place end.fault

-- How many first bytes of the journal of a number are read: those before its zeros, or as many as
-- there may be.
abbrev pub limit_of : Option Zeros → ℕ → ℕ
limit_of None number = 18446744073709551615
limit_of (Some zeros) number = if zeros.number == number then zeros.from else 18446744073709551615
