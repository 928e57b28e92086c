-- The next part is decoded, or it ends the walk.
use Rattle.std.proofs.Common.{[], refl, arith, length-append}
use Rattle.std.proofs.lemmas.Result.{err_from_is_err_and}
use Rattle.tfs_framing.proofs.PassedLemmas.{ends_on, part_told, passed_fits, pushed}
use Rattle.tfs_framing.proofs.body.decode_body.Goals as goal

pub loop-decoded-init : goal.loop-decoded-init
loop-decoded-init c = record { passed = λ rest h. h; ends = ([], refl) }

pub part_at-requires : goal.part_at-requires
part_at-requires c =
    let now = c.loop-decoded.invariant.passed c.requires.0 c.requires.1 in
    (c.requires.0, now.body, now.passed, now.total_is)

pub returns-in_err-bytes : goal.returns-in_err-bytes
returns-in_err-bytes c = λ rest h.
    let now = c.loop-decoded.invariant.passed rest h in
    let p = err_from_is_err_and c.from_residual.result c.from_residual.ensures.1 in
    rw (p.1, p.2) (c.in_err-bytes.ensures rest now.body now.passed now.total_is)

pub overflow_add-decoded : goal.overflow_add-decoded
overflow_add-decoded c =
    let now = c.loop-decoded.invariant.passed c.requires.0 c.requires.1 in
    let part = part_told _ _ _ now _ _ c.in-Wanted.is c.in_ok-bytes.ensures in
    let fits = passed_fits _ _ _ _ _ part.1 in
    let sizes = length-append now.body c.in-Wanted.bytes.now in
    omega (arith, now.total_is)

pub overflow_add-decoded-in-Chunk : goal.overflow_add-decoded-in-Chunk
overflow_add-decoded-in-Chunk c =
    let now = c.loop-decoded.invariant.passed c.requires.0 c.requires.1 in
    let part = part_told _ _ _ now _ _ c.in-Chunk.is c.in_ok-bytes.ensures in
    let fits = passed_fits _ _ _ _ _ part.1 in
    omega arith

pub overflow_add-decoded-in-Chunk-2 : goal.overflow_add-decoded-in-Chunk-2
overflow_add-decoded-in-Chunk-2 c =
    let now = c.loop-decoded.invariant.passed c.requires.0 c.requires.1 in
    let part = part_told _ _ _ now _ _ c.in-Chunk.is c.in_ok-bytes.ensures in
    let fits = passed_fits _ _ _ _ _ part.1 in
    let sizes = length-append now.body c.in-Chunk.bytes.now in
    omega (arith, now.total_is)

pub loop-decoded-smaller : goal.loop-decoded-smaller
loop-decoded-smaller c =
    let now = c.loop-decoded.invariant.passed c.requires.0 c.requires.1 in
    let part = part_told _ _ _ now _ _ c.in-Chunk.is c.in_ok-bytes.ensures in
    let fits = passed_fits _ _ _ _ _ part.1 in
    omega arith

pub returns-in-Wanted : goal.returns-in-Wanted
returns-in-Wanted c = λ rest h.
    let now = c.loop-decoded.invariant.passed rest h in
    let part = part_told _ _ _ now _ _ c.in-Wanted.is c.in_ok-bytes.ensures in (
      _,
      ends_on _ _ _ c.loop-decoded.invariant.ends part.0,
      refl,
      part.3,
      pushed rest c.loop-decoded.decoded _ _ _ _ _ c.push.new.self now part.1 c.push.ensures,
      part.2,
    )

pub loop-decoded-preserved : goal.loop-decoded-preserved
loop-decoded-preserved c = record {
  passed = λ rest h.
      let now = c.loop-decoded.invariant.passed rest h in
      let part = part_told _ _ _ now _ _ c.in-Chunk.is c.in_ok-bytes.ensures in
      pushed rest c.loop-decoded.decoded _ _ _ _ _ c.push-in-Chunk.new.self now part.1 c.push-in-Chunk.ensures;
  ends =
      let now = c.loop-decoded.invariant.passed c.requires.0 c.requires.1 in
      let part = part_told _ _ _ now _ _ c.in-Chunk.is c.in_ok-bytes.ensures in
      ends_on _ _ _ c.loop-decoded.invariant.ends part.0;
}

pub returns-in-Last : goal.returns-in-Last
returns-in-Last c = λ rest h.
    let now = c.loop-decoded.invariant.passed rest h in
    let part = part_told _ _ _ now _ _ c.in-Last.is c.in_ok-bytes.ensures in
    (_, ends_on _ _ _ c.loop-decoded.invariant.ends part.0, refl, part.1, now.body, part.2, part.3, now.kept)
