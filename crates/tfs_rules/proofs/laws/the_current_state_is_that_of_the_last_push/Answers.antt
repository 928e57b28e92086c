-- Both laws follow by induction on the acts of the history, from the first.
use Rattle.tfs_rules.proofs.HistoryLemmas.{current_state_found, current_state_only}
use Rattle.tfs_rules.proofs.laws.the_current_state_is_that_of_the_last_push.Goals as goal

pub returns-clause-found : goal.returns-clause-found
returns-clause-found c = current_state_found

pub returns-clause-only : goal.returns-clause-only
returns-clause-only c = current_state_only
