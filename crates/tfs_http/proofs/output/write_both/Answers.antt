-- A part of the first text, or the first text and a part of the second, is a part of both, joined.
use Rattle.tfs_http.proofs.OutputLemmas.{front_of_both, then_front}
use Rattle.tfs_http.proofs.output.write_both.Goals as goal

pub returns-in-Err-clause-err : goal.returns-in-Err-clause-err
returns-in-Err-clause-err g c =
    let p = c.in-Err.ensures.err in
    (p.0, front_of_both (g.W.Outlet.contents c.args.writer.now) (g.W.Outlet.contents c.write_out.new.writer) c.args.text.now c.args.more.now p.1)

pub returns-clause-err : goal.returns-clause-err
returns-clause-err g c =
    then_front (g.W.Outlet.contents c.args.writer.now) (g.W.Outlet.contents c.write_out.new.writer) (g.W.Outlet.contents c.write_out-2.new.writer)
    c.args.text.now c.args.more.now c.write_out-2.result c.in_default.ensures.ok c.write_out-2.ensures.err
