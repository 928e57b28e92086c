-- The invariant of every world, and that moves are only added.
use Rattle.tfs_store.proofs.RegisterLemmas.{sound}
use Rattle.tfs_store.proofs.KeptLemmas.{kept}
use Rattle.tfs_store.proofs.laws.heads_form_one_chain.Goals as goal

pub returns-clause-chain : goal.returns-clause-chain
returns-clause-chain c events = (sound events).chain

pub returns-clause-head : goal.returns-clause-head
returns-clause-head c events = (sound events).heads

pub returns-clause-kept : goal.returns-clause-kept
returns-clause-kept c events more = kept events more
