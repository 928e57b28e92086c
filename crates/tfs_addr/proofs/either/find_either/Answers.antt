-- If none of the first 16 bytes matches, the first match in the rest is the first of all.
use Rattle.std.proofs.Common.{None, Some, arith}
use Rattle.memchr.specs.Find.{is_byte2}
use Rattle.tfs_addr.proofs.NearLemmas.{beyond-first}
use Rattle.tfs_addr.proofs.either.find_either.Goals as goal

pub returns : goal.returns
returns c =
    let test = is_byte2 c.args.first c.args.second in
    beyond-first test c.args.bytes.now 16 (omega arith) c.in_default.ensures (Some c.in_ok-beyond.beyond) c.in_ok-beyond.ensures

pub returns-in_err-beyond : goal.returns-in_err-beyond
returns-in_err-beyond c =
    let test = is_byte2 c.args.first c.args.second in
    let none = beyond-first test c.args.bytes.now 16 (omega arith) c.in_default.ensures None c.in_err-beyond.ensures in
    rw c.from_residual.ensures none
