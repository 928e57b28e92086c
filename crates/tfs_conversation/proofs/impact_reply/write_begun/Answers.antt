-- If nothing is left of the body, the text begun is all of it. Otherwise what is left is written
-- after it.
use Rattle.std.proofs.Common.{List, ℕ, ◌++◌, ap}
use Rattle.tfs_conversation.proofs.IoLemmas.{all_told, part_as, part_written, written_as}
use Rattle.tfs_conversation.proofs.impact_reply.write_begun.Goals as goal

pub returns-then-begun-clause-ok : goal.returns-then-begun-clause-ok
returns-then-begun-clause-ok g c =
    let head = c.args.begun.head.items in
    let text = c.args.text.now.items in
    written_as c.write_joined.result (g.W.Outlet.contents c.args.writer.now) (g.W.Outlet.contents c.write_joined.new.writer)
    (head ++ c.as_slice.result.now) (head ++ (text ++ c.args.begun.left))
    (all_told head text c.as_slice.result.now c.args.begun.left c.as_slice.ensures.value (c.requires.whole c.if-begun.true))
    c.write_joined.ensures.ok

pub returns-then-begun-clause-err : goal.returns-then-begun-clause-err
returns-then-begun-clause-err g c =
    let head = c.args.begun.head.items in
    let text = c.args.text.now.items in
    part_as c.write_joined.result (g.W.Outlet.contents c.args.writer.now) (g.W.Outlet.contents c.write_joined.new.writer)
    (head ++ c.as_slice.result.now) (head ++ (text ++ c.args.begun.left))
    (all_told head text c.as_slice.result.now c.args.begun.left c.as_slice.ensures.value (c.requires.whole c.if-begun.true))
    c.write_joined.ensures.err

pub returns-clause-ok : goal.returns-clause-ok
returns-clause-ok g c =
    let more = c.args.text.now.items ++ c.args.begun.left in
    written_as c.write_in_pieces.result (g.W.Outlet.contents c.args.writer.now) (g.W.Outlet.contents c.write_in_pieces.new.writer)
    (c.as_slice-2.result.now ++ more) (c.args.begun.head.items ++ more) (ap (λ (t : List ℕ). t ++ more) c.as_slice-2.ensures.value)
    c.write_in_pieces.ensures.ok

pub returns-clause-err : goal.returns-clause-err
returns-clause-err g c =
    let more = c.args.text.now.items ++ c.args.begun.left in
    part_written c.write_in_pieces.result (g.W.Outlet.contents c.args.writer.now) (g.W.Outlet.contents c.write_in_pieces.new.writer)
    (c.as_slice-2.result.now ++ more) (c.args.begun.head.items ++ more) (ap (λ (t : List ℕ). t ++ more) c.as_slice-2.ensures.value)
    c.write_in_pieces.ensures.err
