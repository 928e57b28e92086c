-- Characters outside brackets are pieces, so stripped text stays as it is.
use Rattle.tfs_addr.proofs.PieceLemmas.{IsStripped-again}
use Rattle.tfs_addr.proofs.laws.strips_once.Goals as goal

pub returns : goal.returns
returns c = record { stays = IsStripped-again }
