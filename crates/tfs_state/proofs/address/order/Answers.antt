-- If the other front is shorter, the reversed order is computed.
use Rattle.std.proofs.Common.{◌++◌}
use Rattle.tfs_state.proofs.AddressLemmas.{cmp_reverse}
use Rattle.tfs_state.proofs.address.order.Goals as goal

pub returns-else-front-other : goal.returns-else-front-other
returns-else-front-other c = rw (c.reverse.ensures, c.order_from_shorter-else-front-other.ensures)
    (cmp_reverse (c.args.other.now ++ c.args.rest.now) (c.args.front.now ++ c.args.tail.now))
