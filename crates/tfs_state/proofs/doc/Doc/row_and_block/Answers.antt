-- The row of the instance and its block give both addresses and the digests.
use Rattle.std.proofs.Common.{arith}
use Rattle.tfs_state.proofs.DocLemmas.{kept_length, kept_block, kept_address, kept_config, kept_digests}
use Rattle.tfs_state.proofs.doc.Doc.row_and_block.Goals as goal

pub row-row-requires : goal.row-row-requires
row-row-requires c = let long = kept_length c.self.inside.bytes.items c.self.inside.content c.self.invariant c.args.self.now c.self.view_is in
    let low = c.requires in omega (arith, long, low)

pub block-block-requires : goal.block-block-requires
block-block-requires c = kept_block c.self.inside.bytes.items c.self.inside.content c.self.invariant c.args.self.now c.self.view_is
    c.args.i c.row-row.result.now c.row-row.ensures

pub returns-clause-address : goal.returns-clause-address
returns-clause-address c = kept_address c.self.inside.bytes.items c.self.inside.content c.self.invariant c.args.self.now c.self.view_is
    c.args.i c.row-row.result.now c.block-block.result.now c.row-row.ensures c.block-block.ensures

pub returns-clause-config : goal.returns-clause-config
returns-clause-config c = kept_config c.self.inside.bytes.items c.self.inside.content c.self.invariant c.args.self.now c.self.view_is
    c.args.i c.row-row.result.now c.block-block.result.now c.row-row.ensures c.block-block.ensures

pub returns-clause-digests : goal.returns-clause-digests
returns-clause-digests c = kept_digests c.self.inside.bytes.items c.self.inside.content c.self.invariant c.args.self.now c.self.view_is
    c.args.i c.row-row.result.now c.block-block.result.now c.row-row.ensures c.block-block.ensures
