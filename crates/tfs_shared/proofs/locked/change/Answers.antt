-- A change that isn't prepared has a cause of refusal.
use Rattle.tfs_calls.specs.Refusal.{refusal_value}
use Rattle.tfs_shared.proofs.Refusing.{unready_caused}
use Rattle.tfs_shared.proofs.locked.change.Goals as goal

pub returns-in-Err-clause-caused : goal.returns-in-Err-clause-caused
returns-in-Err-clause-caused g c =
    unready_caused c.args.table.now c.ready.new.self c.args.prepared (refusal_value c.in-Err.refusal) c.in-Err.ensures.refused
    c.in-Err.ensures.memory
