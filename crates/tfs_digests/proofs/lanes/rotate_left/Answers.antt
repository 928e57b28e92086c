use Rattle.tfs_digests.proofs.LaneLemmas.{shifts_rotate}
use Rattle.tfs_digests.proofs.lanes.rotate_left.Goals as goal

pub returns : goal.returns
returns c = shifts_rotate c.args.by c.requires.0 c.requires.1 c.args.x c.fits-x.0
