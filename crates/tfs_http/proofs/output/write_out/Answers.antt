-- One more write takes a part of the rest.
use Rattle.std.proofs.Common.{sym, ◌∙◌}
use Rattle.tfs_http.proofs.OutputLemmas.{written_more}
use Rattle.tfs_http.proofs.output.write_out.Goals as goal

pub loop-rest-preserved : goal.loop-rest-preserved
loop-rest-preserved g c =
    let passed = c.loop-rest.invariant in
    let more = written_more _ (g.W.Outlet.contents c.loop-rest.writer) _ _ passed.0 _ _ _ passed.1 c.split_at.ensures.back passed.2
    c.in-Ok.ensures.bytes in
    let well = c.in-Ok.ensures.well in
    (more.0, more.1, more.2, well.1 ∙ sym well.0 ∙ passed.3)
