-- A table that couldn't be shared has the opening journal.
use Rattle.std.proofs.Common.{◌∙◌, ap}
use Rattle.tfs_serve.proofs.Later.{begins_as}
use Rattle.tfs_serve.proofs.run.serve_named.Goals as goal

pub returns-in-Err-clause-kept : goal.returns-in-Err-clause-kept
returns-in-Err-clause-kept g c = begins_as _ _ (ap (λ t. t.journal) c.in-Err.ensures.back ∙ c.requires.named.5)
