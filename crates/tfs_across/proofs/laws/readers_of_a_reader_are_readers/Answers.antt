-- Walks of one pair, walks with one pair before them, and the last pair of a walk.
use Rattle.tfs_planes.proofs.WalkLemmas.{chain_of_joins, end_of_chain, joins_pair, joins_trans}
use Rattle.tfs_across.specs.Across.{Reads}
use Rattle.tfs_across.proofs.laws.readers_of_a_reader_are_readers.Goals as goal

pub returns-clause-direct : goal.returns-clause-direct
returns-clause-direct c ws i j given = joins_pair (Reads ws) i j given

pub returns-clause-through : goal.returns-clause-through
returns-clause-through c ws i j k given walk = joins_trans (Reads ws) i j k (joins_pair (Reads ws) i j given) walk

pub returns-clause-nobody : goal.returns-clause-nobody
returns-clause-nobody c ws j nobody i walk =
    let chain = chain_of_joins (Reads ws) i j walk in
    let last = end_of_chain (Reads ws) i j chain.0 chain.1 in
    nobody last.0 last.1
