-- Only numbers of instances have addresses, and none of them has this one.
use Rattle.std.proofs.Common.{◌<◌, arith}
use Rattle.tfs_plan.proofs.FindLemmas.{address_within}
use Rattle.tfs_plan.proofs.find.instance_of.Goals as goal

pub returns-clause-absent : goal.returns-clause-absent
returns-clause-absent c = λ v is. c.loop-v.invariant v (let low = address_within c.args.doc.now v c.args.address.now is in omega arith) is
