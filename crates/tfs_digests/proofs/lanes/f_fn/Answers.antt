use Rattle.tfs_digests.proofs.LaneLemmas.{f_lanes}
use Rattle.tfs_digests.proofs.lanes.f_fn.Goals as goal

pub returns : goal.returns
returns c = f_lanes c.args.x c.args.y c.args.z c.fits-x.0 c.fits-y.0 c.fits-z.0
