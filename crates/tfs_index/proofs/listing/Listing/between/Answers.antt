-- The texts are the bytes between the two ends.
use Rattle.std.proofs.Common.{◌≤◌, length, arith}
use Rattle.tfs_index.proofs.ListingLemmas.{text_lent}
use Rattle.tfs_index.proofs.listing.Listing.between.Goals as goal

pub returns-clause-text : goal.returns-clause-text
returns-clause-text c =
    let ordered : c.args.first ≤ c.args.end = omega (arith, c.if-first-end.false) in
    let within : c.args.end ≤ length c.args.self.now.ends.items = omega (arith, c.if-end-len.false, c.len.ensures) in
    text_lent c.args.self.now c.as_slice.result.now c.args.first c.args.end c.end_of.result c.end_of-2.result c.get.result c.get.ensures.lookup
    c.as_slice.ensures.value ordered within c.end_of.ensures c.end_of-2.ensures
