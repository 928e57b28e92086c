-- Bytes without a head are unfinished; with a head, `Opens` holds of them.
use Rattle.std.proofs.Common.{[], refl, arith}
use Rattle.tfs_framing.specs.Framing.{Opens}
use Rattle.tfs_framing.proofs.OpensLemmas.{framed_all, opens_end}
use Rattle.tfs_framing.proofs.WantedLemmas.{unfinished_without_head}
use Rattle.tfs_framing.proofs.framing.frame.Goals as goal

pub returns-then-bytes-lt-MAX_HEAD_BYTES-clause-ok : goal.returns-then-bytes-lt-MAX_HEAD_BYTES-clause-ok
returns-then-bytes-lt-MAX_HEAD_BYTES-clause-ok c =
    let few = c.if-bytes-lt-MAX_HEAD_BYTES.true in (
      unfinished_without_head _ c.in-Err.ensures.absent few,
      (c.args.bytes.now, ([], refl), refl, omega arith, (refl, c.in-Err.ensures.sought few), refl),
    )

pub returns-in-Ok-read_head-clause-ok : goal.returns-in-Ok-read_head-clause-ok
returns-in-Ok-read_head-clause-ok c =
    let found = c.in-Ok.ensures.found in
    let read = c.in-Ok-read_head.ensures.ok in
    let opens : Opens c.args.bytes.now c.new-request.result c.in-Ok-read_head.lines.size c.in-Ok.parts.1.now = record {
      skipped = found.0;
      head = c.in-Ok.parts.0.now;
      has_head = found.1;
      h = read.0;
      reads = read.1;
      own = c.new-request.ensures read.0 read.2;
    } in
    framed_all c.args.bytes.now c.in-Ok.parts.1.now c.frame_body.result
    (opens_end c.args.bytes.now c.in-Ok.parts.1.now c.new-request.result c.in-Ok-read_head.lines.size opens)
    (c.frame_body.ensures.ok c.args.bytes.now opens)

pub returns-in-Ok-read_head-clause-memory : goal.returns-in-Ok-read_head-clause-memory
returns-in-Ok-read_head-clause-memory c =
    let found = c.in-Ok.ensures.found in
    let read = c.in-Ok-read_head.ensures.ok in
    c.frame_body.ensures.memory c.args.bytes.now (record {
      skipped = found.0;
      head = c.in-Ok.parts.0.now;
      has_head = found.1;
      h = read.0;
      reads = read.1;
      own = c.new-request.ensures read.0 read.2;
    })
