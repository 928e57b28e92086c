-- Both directions follow from the positions of the acts.
use Rattle.tfs_rules.proofs.AcceptedLemmas.{accepted_none, accepted_more, accepted_last}
use Rattle.tfs_rules.proofs.laws.histories_are_accepted_act_by_act.Goals as goal

pub returns-clause-none : goal.returns-clause-none
returns-clause-none c = accepted_none

pub returns-clause-more : goal.returns-clause-more
returns-clause-more c = λ h act. (accepted_last h act, λ both. accepted_more h act both.0 both.1)
