-- The address is compared first, and if it differs, the configuration address decides.
use Rattle.tfs_index.proofs.ImpactLemmas.{named_by_address, named_by_config}
use Rattle.tfs_index.proofs.names.names.Goals as goal

pub returns-then-is : goal.returns-then-is
returns-then-is c =
    named_by_address c.args.doc.now c.args.text.now c.address.result c.args.v c.is.result c.address.ensures.value c.is.ensures.value c.if-is.true

pub returns-else-is : goal.returns-else-is
returns-else-is c =
    named_by_config c.args.doc.now c.args.text.now c.address.result c.args.v c.is.result c.address.ensures.value c.is.ensures.value
    c.config.result.now c.eq.result c.if-is.false c.config.ensures.value c.eq.ensures
