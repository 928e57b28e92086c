-- A text has at most one reading.
use Rattle.tfs_addr.proofs.StopLemmas.{reading_is_unique}
use Rattle.tfs_addr.proofs.laws.reads_once.Goals as goal

pub returns : goal.returns
returns c = record { unique = reading_is_unique }
