-- A text reads or stops, not both, and it stops at one position.
use Rattle.tfs_addr.proofs.ReadingLemmas.{reading_or_stop}
use Rattle.tfs_addr.proofs.StopLemmas.{stop_has_no_reading, stop_is_unique, stop_begins_no_piece}
use Rattle.tfs_addr.proofs.laws.reads_or_stops.Goals as goal

pub returns-clause-either : goal.returns-clause-either
returns-clause-either c = reading_or_stop

pub returns-clause-not_both : goal.returns-clause-not_both
returns-clause-not_both c = stop_has_no_reading

pub returns-clause-one_stop : goal.returns-clause-one_stop
returns-clause-one_stop c = stop_is_unique

pub returns-clause-no_piece : goal.returns-clause-no_piece
returns-clause-no_piece c = stop_begins_no_piece
