-- What is said is the reply of the borrowed desk.
use Rattle.std.proofs.Common.{refl}
use Rattle.tfs_calls.specs.Reply.{reply_value}
use Rattle.tfs_conversation.proofs.IoLemmas.{said_whole, said_part}
use Rattle.tfs_conversation.proofs.desk.PlainOwedDesk.reply.Goals as goal

pub returns-clause-ok : goal.returns-clause-ok
returns-clause-ok g c = said_whole c.send.result _ (reply_value c.answer-reply.result) c.args.form _ _ _ _
    (refl, (reply_value c.answer-reply.result, refl, c.answer-reply.ensures.answered)) c.send.ensures.ok c.send.ensures.writer

pub returns-clause-err : goal.returns-clause-err
returns-clause-err g c = said_part c.send.result _ (reply_value c.answer-reply.result) c.args.form _ _ _ _
    (refl, (reply_value c.answer-reply.result, refl, c.answer-reply.ensures.answered)) c.send.ensures.err c.send.ensures.writer
