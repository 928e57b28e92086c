-- The text of the reply is its head, followed by the body unless the form is bare.
use Rattle.std.proofs.Common.{◌++◌, ◌∙◌}
use Rattle.std.specs.Arc.{arc_value}
use Rattle.tfs_calls.specs.Reply.{impact}
use Rattle.tfs_http.specs.ReplyText.{reply_text}
use Rattle.tfs_conversation.proofs.IoLemmas.{bare_text, full_text, none_written, part_as, part_written, written_as}
use Rattle.tfs_conversation.proofs.impact_reply.send_impact.Goals as goal

pub returns-in_default-clause-err : goal.returns-in_default-clause-err
returns-in_default-clause-err g c =
    let answer = c.args.answer.now in
    none_written (g.W.Outlet.contents c.args.writer.now) (reply_text (impact (arc_value answer.version) answer.chosen answer.position) c.args.form)

pub returns-then-form-clause-ok : goal.returns-then-form-clause-ok
returns-then-form-clause-ok g c =
    let answer = c.args.answer.now in
    let begun = c.in-Ok.begun in
    written_as c.write_out.result (g.W.Outlet.contents c.args.writer.now) (g.W.Outlet.contents c.write_out.new.writer) c.as_slice.result.now
    (reply_text (impact (arc_value answer.version) answer.chosen answer.position) c.args.form)
    (c.as_slice.ensures.value ∙ bare_text (arc_value answer.version) answer.chosen answer.position c.args.form begun.head.items
    (c.begin.new.text.items ++ begun.left) c.if-form.true c.in-Ok.ensures.body c.in-Ok.ensures.head) c.write_out.ensures.ok

pub returns-then-form-clause-err : goal.returns-then-form-clause-err
returns-then-form-clause-err g c =
    let answer = c.args.answer.now in
    let begun = c.in-Ok.begun in
    part_written c.write_out.result (g.W.Outlet.contents c.args.writer.now) (g.W.Outlet.contents c.write_out.new.writer) c.as_slice.result.now
    (reply_text (impact (arc_value answer.version) answer.chosen answer.position) c.args.form)
    (c.as_slice.ensures.value ∙ bare_text (arc_value answer.version) answer.chosen answer.position c.args.form begun.head.items
    (c.begin.new.text.items ++ begun.left) c.if-form.true c.in-Ok.ensures.body c.in-Ok.ensures.head) c.write_out.ensures.err

pub returns-clause-ok : goal.returns-clause-ok
returns-clause-ok g c =
    let answer = c.args.answer.now in
    let begun = c.in-Ok.begun in
    let told = c.begin.new.text.items ++ begun.left in
    written_as c.write_begun.result (g.W.Outlet.contents c.args.writer.now) (g.W.Outlet.contents c.write_begun.new.writer) (begun.head.items ++ told)
    (reply_text (impact (arc_value answer.version) answer.chosen answer.position) c.args.form)
    (full_text (arc_value answer.version) answer.chosen answer.position c.args.form begun.head.items told c.if-form.false c.in-Ok.ensures.body
    c.in-Ok.ensures.head) c.write_begun.ensures.ok

pub returns-clause-err : goal.returns-clause-err
returns-clause-err g c =
    let answer = c.args.answer.now in
    let begun = c.in-Ok.begun in
    let told = c.begin.new.text.items ++ begun.left in
    part_as c.write_begun.result (g.W.Outlet.contents c.args.writer.now) (g.W.Outlet.contents c.write_begun.new.writer) (begun.head.items ++ told)
    (reply_text (impact (arc_value answer.version) answer.chosen answer.position) c.args.form)
    (full_text (arc_value answer.version) answer.chosen answer.position c.args.form begun.head.items told c.if-form.false c.in-Ok.ensures.body
    c.in-Ok.ensures.head) c.write_begun.ensures.err
