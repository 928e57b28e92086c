-- The first 16 bytes are compared in one step.
use Rattle.tfs_addr.proofs.NearLemmas.{near-none, near-some}
use Rattle.tfs_addr.proofs.either.find_near.Goals as goal

pub returns-then-mask-eq0 : goal.returns-then-mask-eq0
returns-then-mask-eq0 c = near-none c.args.first c.args.second c.args.bytes.now c.requires c.if-mask-eq0.true

pub returns : goal.returns
returns c = near-some c.args.first c.args.second c.args.bytes.now c.requires c.if-mask-eq0.false
