-- Positions rise along the chain.
use Rattle.tfs_store.specs.Register.{run, empty}
use Rattle.tfs_store.proofs.ChainLemmas.{one_follows}
use Rattle.tfs_store.proofs.RegisterLemmas.{sound}
use Rattle.tfs_store.proofs.laws.no_two_groups_follow_one_head.Goals as goal

pub returns : goal.returns
returns c = record { one = λ events i j m n at_i at_j same. one_follows (run events empty).moves (sound events).chain i j m n at_i at_j same }
