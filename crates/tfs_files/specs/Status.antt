-- The exit statuses of the commands.
use Rattle.std.specs.Prelude.{ℕ}
use Rattle.tfs_files.specs.declared.fault.CommandFault.{CommandFault}
use Rattle.tfs_files.specs.declared.fault.CommandFault.TheVariants as fault

-- The exit status of a fault: 20 or 29 if a retry may help, 21 for invalid arguments, and 22 to 28
-- if a person must look. systemd and shells give lower and higher numbers meanings of their own.
abbrev pub status_of : CommandFault → ℕ
status_of fault.Locked = 20
status_of fault.CannotRead = 20
status_of fault.CannotWrite = 20
status_of fault.Write = 20
status_of fault.NoPlace = 20
status_of fault.CannotBind = 20
status_of fault.SyncFault = 20
status_of fault.AcceptFault = 20
status_of fault.Arguments = 21
status_of fault.NotPast = 21
status_of fault.NotSocket = 21
status_of fault.SocketPath = 21
status_of fault.TornBase = 22
status_of (fault.Damaged at) = 23
status_of (fault.Unlawful number) = 24
status_of fault.NoJournal = 25
status_of fault.NotFirst = 25
status_of fault.Diverged = 25
status_of fault.TooFar = 25
status_of fault.TwoOfName = 25
status_of fault.NotBeginning = 25
status_of fault.Served = 25
status_of fault.Replaced = 25
status_of fault.OldAhead = 25
status_of fault.OtherIdentity = 25
status_of fault.BadIdentity = 25
status_of (fault.NotAtLeast position least) = 26
status_of fault.NoPosition = 26
status_of fault.NoFolder = 27
status_of fault.NotFolder = 27
status_of fault.NotAllowed = 27
status_of fault.OutOfMemory = 28
status_of (fault.SmallStack limit) = 28
status_of fault.JournalFault = 29
