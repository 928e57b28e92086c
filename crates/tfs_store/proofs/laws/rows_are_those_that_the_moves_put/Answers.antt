-- The invariant of every world.
use Rattle.tfs_store.proofs.RegisterLemmas.{sound}
use Rattle.tfs_store.proofs.KeptLemmas.{known}
use Rattle.tfs_store.proofs.laws.rows_are_those_that_the_moves_put.Goals as goal

pub returns-clause-rows : goal.returns-clause-rows
returns-clause-rows c events name = (sound events).rows name

pub returns-clause-known : goal.returns-clause-known
returns-clause-known c events token s at = known events token s at
