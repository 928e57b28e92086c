-- The missing bytes have arrived or not, and if so CR LF or a bad end follows them.
use Rattle.std.proofs.Common.{arith, ap, ◌∙◌, ◌++◌}
use Rattle.tfs_framing.proofs.HeadLemmas.{halves}
use Rattle.tfs_framing.proofs.PartLemmas.{bad_end}
use Rattle.tfs_framing.proofs.PassedLemmas.{bytes_wanted, chunk_whole, chunk_flawed}
use Rattle.tfs_framing.proofs.chunks.rest_of_chunk.Goals as goal

pub returns-then-left-lacking : goal.returns-then-left-lacking
returns-then-left-lacking c = λ rest count body p.
    let short = c.if-left-lacking.true in
    let least = c.min.ensures in
    let front = c.split_at.ensures.front_len in
    let back = c.split_at.ensures.back_len in
    bytes_wanted rest count body c.args.left.now c.split_at.result.0.now c.split_at.result.1.now _ _ p
    (halves _ _ _ _ c.split_at.ensures.front c.split_at.ensures.back) (omega arith) short (omega arith)

pub returns-in-Some : goal.returns-in-Some
returns-in-Some c = λ rest count body p.
    let enough = c.if-left-lacking.false in
    let least = c.min.ensures in
    let front = c.split_at.ensures.front_len in
    chunk_whole rest count body _ c.split_at.result.0.now _ c.args.lacking p (omega arith)
    (halves _ _ _ _ c.split_at.ensures.front c.split_at.ensures.back ∙ ap (λ t. c.split_at.result.0.now ++ t) c.in-Some.ensures.found)

pub returns-in-None : goal.returns-in-None
returns-in-None c = λ rest count body p.
    let enough = c.if-left-lacking.false in
    let least = c.min.ensures in
    let front = c.split_at.ensures.front_len in
    let back = c.split_at.ensures.back_len in
    chunk_flawed rest count body _ _ p
    (bad_end c.args.lacking c.args.left.now c.split_at.result.0.now c.split_at.result.1.now (halves _ _ _ _ c.split_at.ensures.front c.split_at.ensures.back)
    (omega arith) (omega arith) c.in-None.ensures.absent)
