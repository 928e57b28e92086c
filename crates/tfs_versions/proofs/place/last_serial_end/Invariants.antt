-- Each iteration takes tokens.
use Rattle.std.proofs.Common.{length}
use Rattle.tfs_versions.proofs.place.last_serial_end.Given as goal

abbrev pub decreases-members : goal.decreases-members
decreases-members l = length l.reader
