-- The split at the last slash.
use Rattle.std.proofs.Common.{arith}
use Rattle.tfs_across.proofs.AddressLemmas.{split_last}
use Rattle.tfs_across.proofs.address.last_cut.Goals as goal

pub returns : goal.returns
returns c = split_last 47 c.args.path.now _ c.rsplit_once.ensures.cases (omega arith)
