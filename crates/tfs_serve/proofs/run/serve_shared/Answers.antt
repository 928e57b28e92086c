-- A table that couldn't be served has the opening journal.
use Rattle.tfs_serve.proofs.Later.{begins_as}
use Rattle.tfs_serve.proofs.run.serve_shared.Goals as goal

pub returns-in_default-clause-kept : goal.returns-in_default-clause-kept
returns-in_default-clause-kept g c = begins_as _ _ c.give_back.ensures.journal

pub returns-in-Err-clause-kept : goal.returns-in-Err-clause-kept
returns-in-Err-clause-kept g c = begins_as _ _ c.give_back-in-Err.ensures.journal
