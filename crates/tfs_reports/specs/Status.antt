-- The exit statuses of the reading commands.
use Rattle.std.specs.Prelude.{ℕ}
use Rattle.tfs_files.specs.Status as files
use Rattle.tfs_reports.specs.declared.fault.ReportFault.{ReportFault}
use Rattle.tfs_reports.specs.declared.fault.ReportFault.TheVariants as fault

-- The exit status of a fault: the shared status for a fault that all commands share, 20 if a retry
-- may help, and 30 or more for something that doesn't exist, can't be restored, or isn't valid
-- input.
abbrev pub status_of : ReportFault → ℕ
status_of (fault.Files shared) = files.status_of shared
status_of fault.Changing = 20
status_of fault.NoName = 30
status_of fault.NoState = 31
status_of (fault.BeforeOldest oldest) = 32
status_of (fault.BehindNewest newest) = 32
status_of fault.NotKept = 32
status_of fault.LineageDiffers = 33
status_of fault.SerialAtLimit = 34
status_of fault.TooLong = 34
status_of fault.Unplaced = 34
status_of fault.NoAddress = 35
status_of fault.TooManyAddresses = 35
status_of (fault.UnknownAddress number) = 35
status_of fault.NotLocked = 36
status_of fault.NoTime = 32
status_of fault.BadTime = 21
status_of fault.OneInput = 21
status_of fault.NoSource = 21
status_of fault.NoFile = 37
status_of (fault.BadPlan why) = 37
status_of (fault.BadState why) = 37
status_of fault.LargeState = 37
status_of fault.BadUrl = 21
status_of fault.NoReply = 20
status_of (fault.Status status) = 20
