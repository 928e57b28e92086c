-- No lane of the block marks a byte that needs an escape.
use Rattle.std.proofs.Common.{arith}
use Rattle.json.proofs.Printed.Plain.{plain_from_lanes}
use Rattle.tfs_escapes.proofs.plain.block_is_plain.Goals as goal

pub returns : goal.returns
returns c = plain_from_lanes c.args.text.now c.args.at 16 c.requires (omega arith) c.type_inv.text
