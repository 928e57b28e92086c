-- The law follows by cases on the act.
use Rattle.tfs_rules.proofs.VerdictLemmas.{holder_of_locked}
use Rattle.tfs_rules.proofs.laws.locked_acts_have_a_holder.Goals as goal

pub returns : goal.returns
returns c = record { held = holder_of_locked }
