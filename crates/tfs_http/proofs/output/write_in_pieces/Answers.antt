-- A part of the head, or the head and a part of the body, is a part of both, joined.
use Rattle.std.proofs.Common.{◌++◌}
use Rattle.tfs_http.proofs.OutputLemmas.{front_of_both, then_all, then_front}
use Rattle.tfs_http.proofs.output.write_in_pieces.Goals as goal

pub returns-in-Err-clause-err : goal.returns-in-Err-clause-err
returns-in-Err-clause-err g c =
    let p = c.in-Err.ensures.err in (
      p.0,
      front_of_both (g.W.Outlet.contents c.args.writer.now) (g.W.Outlet.contents c.write_out.new.writer) c.args.head.now
          (c.args.text.now.items ++ c.args.left) p.1,
    )

pub returns-clause-ok : goal.returns-clause-ok
returns-clause-ok g c =
    then_all c.write_pieces.result (g.W.Outlet.contents c.args.writer.now) (g.W.Outlet.contents c.write_out.new.writer)
    (g.W.Outlet.contents c.write_pieces.new.writer) c.args.head.now (c.args.text.now.items ++ c.args.left) c.in_default.ensures.ok
    c.write_pieces.ensures.ok

pub returns-clause-err : goal.returns-clause-err
returns-clause-err g c =
    then_front (g.W.Outlet.contents c.args.writer.now) (g.W.Outlet.contents c.write_out.new.writer) (g.W.Outlet.contents c.write_pieces.new.writer)
    c.args.head.now (c.args.text.now.items ++ c.args.left) c.write_pieces.result c.in_default.ensures.ok c.write_pieces.ensures.err
