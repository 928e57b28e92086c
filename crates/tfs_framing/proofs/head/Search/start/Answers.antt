-- A new search has searched no bytes.
use Rattle.tfs_framing.proofs.KnownLemmas.{nothing_sought}
use Rattle.tfs_framing.proofs.head.Search.start.Goals as goal

pub returns : goal.returns
returns c = nothing_sought
