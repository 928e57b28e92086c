-- The closed plane relates each instance to those that it reaches.
use Rattle.tfs_index.proofs.IndexLemmas.{closed_plane}
use Rattle.tfs_index.proofs.index.reach_plane.Goals as goal

pub returns : goal.returns
returns c = closed_plane c.args.doc.now c.relate.new.plane c.close.new.self c.in_ok-relate.ensures c.close.ensures.size c.close.ensures.walks
