-- One more piece is written.
use Rattle.std.proofs.Common.{◌∙◌, List, ℕ, ◌++◌, arith, ap, sym}
use Rattle.tfs_http.proofs.OutputLemmas.{pieces_more, last_piece, broken_piece, fewer_left}
use Rattle.tfs_http.proofs.output.write_pieces.Goals as goal

pub pieces-preserved : goal.pieces-preserved
pieces-preserved g c =
    let w = c.pieces.invariant in
    let rest = c.fill-is_last.new.self in
    let more = pieces_more (g.W.Outlet.contents c.args.writer.now) (g.W.Outlet.contents c.pieces.writer) (g.W.Outlet.contents c.write_out.new.writer)
    _ w.0 c.pieces.text.items c.pieces.left c.as_slice.result.now rest w.1
    (ap (λ (t : List ℕ). t ++ rest) c.as_slice.ensures.value ∙ c.fill-is_last.ensures.joined) w.2 c.in_default.ensures.ok in (
      more.0,
      more.1 ∙ ap (λ (t : List ℕ). more.0 ++ (t ++ rest)) (sym {A = List ℕ} c.clear.ensures.items),
      more.2,
      record {
        within = omega (arith, c.clear.ensures.len);
        room = omega (arith, c.clear.ensures.capacity, c.fill-is_last.ensures.room.room);
      },
      c.in_default.ensures.writer ∙ w.4,
    )

pub pieces-smaller : goal.pieces-smaller
pieces-smaller g c =
    let rest = c.fill-is_last.new.self in
    fewer_left c.as_slice.result.now rest c.pieces.text.items c.pieces.left c.clear.new.self.items 65536
    (ap (λ (t : List ℕ). t ++ rest) c.as_slice.ensures.value ∙ c.fill-is_last.ensures.joined)
    (c.as_slice.ensures.len ∙ c.fill-is_last.ensures.full c.if-is_last.false) (omega arith) c.clear.ensures.items

pub returns-then-is_last-clause-ok : goal.returns-then-is_last-clause-ok
returns-then-is_last-clause-ok g c =
    let w = c.pieces.invariant in
    let rest = c.fill-is_last.new.self in
    last_piece (g.W.Outlet.contents c.args.writer.now) (g.W.Outlet.contents c.pieces.writer) (g.W.Outlet.contents c.write_out.new.writer)
    _ w.0 c.pieces.text.items c.pieces.left c.as_slice.result.now rest w.1
    (ap (λ (t : List ℕ). t ++ rest) c.as_slice.ensures.value ∙ c.fill-is_last.ensures.joined)
    (c.fill-is_last.ensures.whole c.if-is_last.true) w.2 c.in_default.ensures.ok

pub returns-in-Err-clause-err : goal.returns-in-Err-clause-err
returns-in-Err-clause-err g c =
    let w = c.pieces.invariant in
    let p = c.in-Err.ensures.err in
    let rest = c.fill-is_last.new.self in (
      p.0,
      broken_piece (g.W.Outlet.contents c.args.writer.now) (g.W.Outlet.contents c.pieces.writer) (g.W.Outlet.contents c.write_out.new.writer)
          _ w.0 c.pieces.text.items c.pieces.left c.as_slice.result.now rest w.1
          (ap (λ (t : List ℕ). t ++ rest) c.as_slice.ensures.value ∙ c.fill-is_last.ensures.joined) w.2 p.1,
    )
