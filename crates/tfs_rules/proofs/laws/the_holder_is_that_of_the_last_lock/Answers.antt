-- Both laws follow by induction on the acts of the history, from the first.
use Rattle.tfs_rules.proofs.HistoryLemmas.{holder_found, holder_only}
use Rattle.tfs_rules.proofs.laws.the_holder_is_that_of_the_last_lock.Goals as goal

pub returns-clause-found : goal.returns-clause-found
returns-clause-found c = holder_found

pub returns-clause-only : goal.returns-clause-only
returns-clause-only c = holder_only
