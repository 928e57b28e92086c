-- The front decides first, then the tail.
use Rattle.std.proofs.Common.{◌∙◌, sym}
use Rattle.tfs_state.proofs.AddressLemmas.{cmp_longer, cmp_split}
use Rattle.tfs_state.proofs.address.order_to_one.Goals as goal

pub returns-then-text-front : goal.returns-then-text-front
returns-then-text-front c = c.cmp.ensures ∙ sym (cmp_longer c.args.front.now c.args.tail.now c.args.text.now c.if-text-front.true)

pub returns : goal.returns
returns c = rw (c.then.ensures, c.cmp-2.ensures, c.cmp-3.ensures, c.split_at.ensures.front, c.split_at.ensures.back)
    (sym (cmp_split c.args.front.now c.args.tail.now c.args.text.now c.if-text-front.false))
