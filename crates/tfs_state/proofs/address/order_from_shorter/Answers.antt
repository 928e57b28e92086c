-- The shorter front decides first, then the rest.
use Rattle.std.proofs.Common.{sym}
use Rattle.tfs_state.proofs.AddressLemmas.{cmp_split_parts}
use Rattle.tfs_state.proofs.address.order_from_shorter.Goals as goal

pub returns : goal.returns
returns c = rw (c.then.ensures, c.cmp.ensures, c.reverse-later.ensures, c.order_to_one.ensures, c.split_at.ensures.front, c.split_at.ensures.back)
    (sym (cmp_split_parts c.args.front.now c.args.tail.now c.args.other.now c.args.rest.now c.requires))
