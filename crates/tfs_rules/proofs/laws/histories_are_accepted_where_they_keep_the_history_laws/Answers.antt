-- Each law follows from what accepted acts leave between its two positions; conversely, each
-- verdict follows from the laws.
use Rattle.tfs_rules.proofs.HistoryLawLemmas.{laws_kept, accepted_by_laws, one_identifier}
use Rattle.tfs_rules.proofs.laws.histories_are_accepted_where_they_keep_the_history_laws.Goals as goal

pub returns-clause-accepted : goal.returns-clause-accepted
returns-clause-accepted c = λ h one. (laws_kept h one, accepted_by_laws h)

pub returns-clause-read : goal.returns-clause-read
returns-clause-read c = one_identifier
