-- Nothing is known of the bytes, and all of them are undecoded.
use Rattle.std.proofs.Common.{refl}
use Rattle.tfs_framing.proofs.progress.Progress.start.Goals as goal

pub returns-clause-at : goal.returns-clause-at
returns-clause-at c = λ bytes. (refl, c.start.ensures bytes)
