-- If there is no memory, nothing is written.
use Rattle.tfs_calls.specs.Reply.{reply_value}
use Rattle.tfs_http.specs.ReplyText.{reply_text}
use Rattle.tfs_conversation.proofs.IoLemmas.{none_written}
use Rattle.tfs_conversation.proofs.buffer.send_whole.Goals as goal

pub returns-in_default-clause-err : goal.returns-in_default-clause-err
returns-in_default-clause-err g c = none_written (g.W.Outlet.contents c.args.writer.now) (reply_text (reply_value c.args.reply.now) c.args.form)

pub returns-then-is_err-clause-err : goal.returns-then-is_err-clause-err
returns-then-is_err-clause-err g c = none_written (g.W.Outlet.contents c.args.writer.now) (reply_text (reply_value c.args.reply.now) c.args.form)
