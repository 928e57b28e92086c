-- Three words or more name no action.
use Rattle.tfs_plan.proofs.PlanLemmas.{no_action}
use Rattle.tfs_plan.proofs.action.action_in.Goals as goal

pub returns-in-len3-up : goal.returns-in-len3-up
returns-in-len3-up c = no_action c.args.words.now c.in-len3-up.len_at_least
