use Rattle.tfs_digests.proofs.LaneLemmas.{i_lanes}
use Rattle.tfs_digests.proofs.lanes.i_fn.Goals as goal

pub returns : goal.returns
returns c = i_lanes c.args.x c.args.y c.args.z c.fits-x.0 c.fits-y.0 c.fits-z.0
