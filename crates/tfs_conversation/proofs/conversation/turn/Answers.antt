-- More bytes are read; then the lemma about a turn with this input applies to all bytes.
use Rattle.std.proofs.Common.{◌∙◌, refl, sym, ap, None, unwrap_or, ◌++◌}
use Rattle.std.specs.Result.{result_ok}
use Rattle.tfs_framing.specs.Framing.{framing_refusal}
use Rattle.tfs_framing.specs.declared.request.Form.{Form}
use Rattle.tfs_framing.proofs.MessageLemmas.{body_fits}
use Rattle.tfs_conversation.specs.Turns.{moment, HasEnded}
use Rattle.tfs_conversation.specs.declared.input.Arrived.{Arrived}
use Rattle.tfs_conversation.specs.declared.ended.Ended.TheVariants.{Asked, Refused}
use Rattle.tfs_conversation.proofs.ArrivedLemmas.{some_arrives, none_arrives, ended_through, less_behind}
use Rattle.tfs_conversation.proofs.ConversationLemmas.{went_reading, went_then, went_then_ended, went_then_broken}
use Rattle.tfs_conversation.proofs.ConversationLemmas.{ended_with_input, went_answering, ended_asked, ended_refusing, not_asked, asked_ends}
use Rattle.tfs_conversation.proofs.BrokenLemmas.{broken_between, broken_answering, broken_refusing, no_reading}
use Rattle.tfs_conversation.proofs.conversation.turn.Goals as goal

-- ---- no input, or an error

pub returns-in-Ok-None-clause-went : goal.returns-in-Ok-None-clause-went
returns-in-Ok-None-clause-went g c e =
    let read = c.in-Ok-None.ensures.bytes in
    went_reading g.D.OwedDesk.step c.args.desk.now (g.R.Source.remaining c.args.reader.now, g.R.Source.taken c.args.reader.now) (g.R.Source.remaining c.arrive.new.reader, g.R.Source.taken c.arrive.new.reader)
    (g.W.Outlet.contents c.args.writer.now) c.args.reads.now c.arrive.new.reads c.args.connection.now.input
    c.arrive.new.self read.0
    (none_arrives (c.args.connection.now.input ++ read.0) c.arrive.new.self c.in-Ok-None.field-0 c.in-Ok-None.field-0-is read.3) read.1 read.2

pub returns-in-Err-clause-fault : goal.returns-in-Err-clause-fault
returns-in-Err-clause-fault g c =
    let read = c.in-Err.ensures.bytes in (
      broken_between g.D.OwedDesk.step c.args.desk.now (g.R.Source.remaining c.args.reader.now, g.R.Source.taken c.args.reader.now) (g.R.Source.remaining c.arrive.new.reader, g.R.Source.taken c.arrive.new.reader)
          (g.W.Outlet.contents c.args.writer.now) c.args.reads.now c.arrive.new.reads c.args.connection.now.input
          c.arrive.new.self read.0 c.in-Err.fault read.1 read.2 read.4.0,
      λ is. went_reading g.D.OwedDesk.step c.args.desk.now (g.R.Source.remaining c.args.reader.now, g.R.Source.taken c.args.reader.now) (g.R.Source.remaining c.arrive.new.reader, g.R.Source.taken c.arrive.new.reader)
          (g.W.Outlet.contents c.args.writer.now) c.args.reads.now c.arrive.new.reads c.args.connection.now.input
          c.arrive.new.self read.0 (read.4.1 is) read.1 read.2,
    )

-- ---- a message

pub reply_to-requires-clause-body : goal.reply_to-requires-clause-body
reply_to-requires-clause-body g c =
    let read = c.in-Ok-Some.ensures.bytes in
    let message = some_arrives (c.args.connection.now.input ++ read.0) c.arrive.new.self c.in-Ok-Some.field-0 c.in-Ok-Some.arrived
    (Arrived.Message c.in-Message.request) c.in-Ok-Some.field-0-is c.in-Message.is read.3 in
    body_fits (c.args.connection.now.input ++ read.0) c.in-Message.request message.0 message.1

pub returns-in-Ok-clause-went : goal.returns-in-Ok-clause-went
returns-in-Ok-clause-went g c e =
    let read = c.in-Ok-Some.ensures.bytes in
    let message = some_arrives (c.args.connection.now.input ++ read.0) c.arrive.new.self c.in-Ok-Some.field-0 c.in-Ok-Some.arrived
    (Arrived.Message c.in-Message.request) c.in-Ok-Some.field-0-is c.in-Message.is read.3 in
    let reply = c.in-Ok.ensures.ok in
    went_then g.D.OwedDesk.step
    (moment c.args.desk.now (g.R.Source.remaining c.args.reader.now, g.R.Source.taken c.args.reader.now) (g.W.Outlet.contents c.args.writer.now) c.args.reads.now c.args.connection.now.input)
    (moment c.args.desk.now (g.R.Source.remaining c.arrive.new.reader, g.R.Source.taken c.arrive.new.reader) (g.W.Outlet.contents c.args.writer.now)
    c.arrive.new.reads (c.args.connection.now.input ++ read.0))
    (moment c.reply_to.new.desk (g.R.Source.remaining c.arrive.new.reader, g.R.Source.taken c.arrive.new.reader) (g.W.Outlet.contents c.reply_to.new.writer)
    c.arrive.new.reads c.reply_to.new.connection.input)
    (went_reading g.D.OwedDesk.step c.args.desk.now (g.R.Source.remaining c.args.reader.now, g.R.Source.taken c.args.reader.now) (g.R.Source.remaining c.arrive.new.reader, g.R.Source.taken c.arrive.new.reader)
    (g.W.Outlet.contents c.args.writer.now) c.args.reads.now c.arrive.new.reads c.args.connection.now.input
    (c.args.connection.now.input ++ read.0) read.0 refl read.1 read.2)
    (went_answering g.D.OwedDesk.step c.args.desk.now c.reply_to.new.desk (g.R.Source.remaining c.arrive.new.reader, g.R.Source.taken c.arrive.new.reader) (g.W.Outlet.contents c.args.writer.now)
    (g.W.Outlet.contents c.reply_to.new.writer) c.arrive.new.reads (c.args.connection.now.input ++ read.0)
    c.reply_to.new.connection.input c.in-Message.request message.0
    reply.0 message.1 (c.in-Ok.ensures.input ∙ message.2) reply.1 reply.2 reply.3
    (sym (ap (λ (f : Form). f.close) c.form-form.ensures.value) ∙ not_asked c.form-form.result.close c.end_after.result
    c.end_after.ensures (ap (λ r. unwrap_or (result_ok r) None) e)))

pub returns-in-Ok-clause-less : goal.returns-in-Ok-clause-less
returns-in-Ok-clause-less g c e =
    let read = c.in-Ok-Some.ensures.bytes in
    let message = some_arrives (c.args.connection.now.input ++ read.0) c.arrive.new.self c.in-Ok-Some.field-0 c.in-Ok-Some.arrived
    (Arrived.Message c.in-Message.request) c.in-Ok-Some.field-0-is c.in-Message.is read.3 in
    less_behind c.args.reads.now c.arrive.new.reads c.args.connection.now.input read.0 c.reply_to.new.connection.input c.in-Message.request message.0
    read.2 message.1 (c.in-Ok.ensures.input ∙ message.2) c.in-Ok-Some.ensures.limit

pub returns-in-Ok-clause-ended : goal.returns-in-Ok-clause-ended
returns-in-Ok-clause-ended g c =
    let read = c.in-Ok-Some.ensures.bytes in
    let message = some_arrives (c.args.connection.now.input ++ read.0) c.arrive.new.self c.in-Ok-Some.field-0 c.in-Ok-Some.arrived
    (Arrived.Message c.in-Message.request) c.in-Ok-Some.field-0-is c.in-Message.is read.3 in
    let reply = c.in-Ok.ensures.ok in
    asked_ends (HasEnded g.D.OwedDesk.step
    (moment c.args.desk.now (g.R.Source.remaining c.args.reader.now, g.R.Source.taken c.args.reader.now) (g.W.Outlet.contents c.args.writer.now) c.args.reads.now c.args.connection.now.input)
    (moment c.reply_to.new.desk (g.R.Source.remaining c.arrive.new.reader, g.R.Source.taken c.arrive.new.reader) (g.W.Outlet.contents c.reply_to.new.writer)
    c.arrive.new.reads c.reply_to.new.connection.input))
    c.form-form.result.close c.end_after.result c.end_after.ensures
    (λ asks. went_then_ended g.D.OwedDesk.step
    (moment c.args.desk.now (g.R.Source.remaining c.args.reader.now, g.R.Source.taken c.args.reader.now) (g.W.Outlet.contents c.args.writer.now) c.args.reads.now c.args.connection.now.input)
    (moment c.args.desk.now (g.R.Source.remaining c.arrive.new.reader, g.R.Source.taken c.arrive.new.reader) (g.W.Outlet.contents c.args.writer.now)
    c.arrive.new.reads (c.args.connection.now.input ++ read.0))
    (moment c.reply_to.new.desk (g.R.Source.remaining c.arrive.new.reader, g.R.Source.taken c.arrive.new.reader) (g.W.Outlet.contents c.reply_to.new.writer)
    c.arrive.new.reads c.reply_to.new.connection.input)
    Asked (went_reading g.D.OwedDesk.step c.args.desk.now (g.R.Source.remaining c.args.reader.now, g.R.Source.taken c.args.reader.now) (g.R.Source.remaining c.arrive.new.reader, g.R.Source.taken c.arrive.new.reader)
    (g.W.Outlet.contents c.args.writer.now) c.args.reads.now c.arrive.new.reads c.args.connection.now.input
    (c.args.connection.now.input ++ read.0) read.0 refl read.1 read.2)
    (ended_asked g.D.OwedDesk.step c.args.desk.now c.reply_to.new.desk (g.R.Source.remaining c.arrive.new.reader, g.R.Source.taken c.arrive.new.reader) (g.W.Outlet.contents c.args.writer.now)
    (g.W.Outlet.contents c.reply_to.new.writer) c.arrive.new.reads (c.args.connection.now.input ++ read.0)
    c.reply_to.new.connection.input c.in-Message.request message.0
    reply.0 message.1 (c.in-Ok.ensures.input ∙ message.2) reply.1 reply.2 reply.3
    (sym (ap (λ (f : Form). f.close) c.form-form.ensures.value) ∙ asks)))

pub returns-in-Message-clause-fault : goal.returns-in-Message-clause-fault
returns-in-Message-clause-fault g c =
    let read = c.in-Ok-Some.ensures.bytes in
    let message = some_arrives (c.args.connection.now.input ++ read.0) c.arrive.new.self c.in-Ok-Some.field-0 c.in-Ok-Some.arrived
    (Arrived.Message c.in-Message.request) c.in-Ok-Some.field-0-is c.in-Message.is read.3 in
    let reply = c.in-Err-reply_to.ensures.err in (
      went_then_broken g.D.OwedDesk.step
          (moment c.args.desk.now (g.R.Source.remaining c.args.reader.now, g.R.Source.taken c.args.reader.now) (g.W.Outlet.contents c.args.writer.now) c.args.reads.now c.args.connection.now.input)
          (moment c.args.desk.now (g.R.Source.remaining c.arrive.new.reader, g.R.Source.taken c.arrive.new.reader) (g.W.Outlet.contents c.args.writer.now)
          c.arrive.new.reads (c.args.connection.now.input ++ read.0))
          (moment c.reply_to.new.desk (g.R.Source.remaining c.arrive.new.reader, g.R.Source.taken c.arrive.new.reader) (g.W.Outlet.contents c.reply_to.new.writer)
          c.arrive.new.reads c.reply_to.new.connection.input)
          c.in-Err-reply_to.fault (went_reading g.D.OwedDesk.step c.args.desk.now (g.R.Source.remaining c.args.reader.now, g.R.Source.taken c.args.reader.now) (g.R.Source.remaining c.arrive.new.reader, g.R.Source.taken c.arrive.new.reader)
          (g.W.Outlet.contents c.args.writer.now) c.args.reads.now c.arrive.new.reads c.args.connection.now.input
          (c.args.connection.now.input ++ read.0) read.0 refl read.1 read.2)
          (broken_answering g.D.OwedDesk.step c.args.desk.now c.reply_to.new.desk
          (g.R.Source.remaining c.arrive.new.reader, g.R.Source.taken c.arrive.new.reader) (g.W.Outlet.contents c.args.writer.now)
          (g.W.Outlet.contents c.reply_to.new.writer) c.arrive.new.reads (c.args.connection.now.input ++ read.0)
          c.reply_to.new.connection.input c.in-Message.request message.0
          reply.0 c.in-Err-reply_to.fault message.1 (c.in-Err-reply_to.ensures.input ∙ message.2) reply.1 reply.2.0 reply.2.1),
      λ is. absurd (no_reading _ _ _ _ reply.2.0 is),
    )

-- ---- a refusal

pub returns-in-Ok-send-clause-ended : goal.returns-in-Ok-send-clause-ended
returns-in-Ok-send-clause-ended g c =
    let read = c.in-Ok-Some.ensures.bytes in
    let is : framing_refusal (c.args.connection.now.input ++ read.0) c.in-Refused.refusal =
    some_arrives (c.args.connection.now.input ++ read.0) c.arrive.new.self c.in-Ok-Some.field-0 c.in-Ok-Some.arrived
    (Arrived.Refused c.in-Refused.refusal) c.in-Ok-Some.field-0-is c.in-Refused.is read.3 in
    went_then_ended g.D.OwedDesk.step
    (moment c.args.desk.now (g.R.Source.remaining c.args.reader.now, g.R.Source.taken c.args.reader.now) (g.W.Outlet.contents c.args.writer.now) c.args.reads.now c.args.connection.now.input)
    (moment c.args.desk.now (g.R.Source.remaining c.arrive.new.reader, g.R.Source.taken c.arrive.new.reader) (g.W.Outlet.contents c.args.writer.now)
    c.arrive.new.reads (c.args.connection.now.input ++ read.0))
    (moment c.args.desk.now (g.R.Source.remaining c.arrive.new.reader, g.R.Source.taken c.arrive.new.reader) (g.W.Outlet.contents c.send.new.writer) c.arrive.new.reads c.arrive.new.self)
    Refused (went_reading g.D.OwedDesk.step c.args.desk.now (g.R.Source.remaining c.args.reader.now, g.R.Source.taken c.args.reader.now) (g.R.Source.remaining c.arrive.new.reader, g.R.Source.taken c.arrive.new.reader)
    (g.W.Outlet.contents c.args.writer.now) c.args.reads.now c.arrive.new.reads c.args.connection.now.input
    (c.args.connection.now.input ++ read.0) read.0 refl read.1 read.2)
    (ended_refusing g.D.OwedDesk.step c.args.desk.now (g.R.Source.remaining c.arrive.new.reader, g.R.Source.taken c.arrive.new.reader) (g.W.Outlet.contents c.args.writer.now)
    (g.W.Outlet.contents c.send.new.writer) c.arrive.new.reads (c.args.connection.now.input ++ read.0) c.arrive.new.self c.in-Refused.refusal
    is c.in-Ok-send.ensures.ok)

pub returns-in-Refused-clause-fault : goal.returns-in-Refused-clause-fault
returns-in-Refused-clause-fault g c =
    let read = c.in-Ok-Some.ensures.bytes in
    let is : framing_refusal (c.args.connection.now.input ++ read.0) c.in-Refused.refusal =
    some_arrives (c.args.connection.now.input ++ read.0) c.arrive.new.self c.in-Ok-Some.field-0 c.in-Ok-Some.arrived
    (Arrived.Refused c.in-Refused.refusal) c.in-Ok-Some.field-0-is c.in-Refused.is read.3 in (
      went_then_broken g.D.OwedDesk.step
          (moment c.args.desk.now (g.R.Source.remaining c.args.reader.now, g.R.Source.taken c.args.reader.now) (g.W.Outlet.contents c.args.writer.now) c.args.reads.now c.args.connection.now.input)
          (moment c.args.desk.now (g.R.Source.remaining c.arrive.new.reader, g.R.Source.taken c.arrive.new.reader) (g.W.Outlet.contents c.args.writer.now)
          c.arrive.new.reads (c.args.connection.now.input ++ read.0))
          (moment c.args.desk.now (g.R.Source.remaining c.arrive.new.reader, g.R.Source.taken c.arrive.new.reader) (g.W.Outlet.contents c.send.new.writer) c.arrive.new.reads c.arrive.new.self)
          c.in-Err-send.fault (went_reading g.D.OwedDesk.step c.args.desk.now (g.R.Source.remaining c.args.reader.now, g.R.Source.taken c.args.reader.now) (g.R.Source.remaining c.arrive.new.reader, g.R.Source.taken c.arrive.new.reader)
          (g.W.Outlet.contents c.args.writer.now) c.args.reads.now c.arrive.new.reads c.args.connection.now.input
          (c.args.connection.now.input ++ read.0) read.0 refl read.1 read.2)
          (broken_refusing g.D.OwedDesk.step c.args.desk.now (g.R.Source.remaining c.arrive.new.reader, g.R.Source.taken c.arrive.new.reader) (g.W.Outlet.contents c.args.writer.now)
          (g.W.Outlet.contents c.send.new.writer) c.arrive.new.reads (c.args.connection.now.input ++ read.0) c.arrive.new.self c.in-Refused.refusal
          c.in-Err-send.fault is c.in-Err-send.ensures.err),
      λ is. absurd (no_reading _ _ _ _ c.in-Err-send.ensures.err is),
    )

-- ---- the end of the input

pub returns-clause-ended : goal.returns-clause-ended
returns-clause-ended g c =
    let read = c.in-Ok-Some.ensures.bytes in
    ended_with_input g.D.OwedDesk.step c.args.desk.now (g.R.Source.remaining c.args.reader.now, g.R.Source.taken c.args.reader.now) (g.R.Source.remaining c.arrive.new.reader, g.R.Source.taken c.arrive.new.reader)
    (g.W.Outlet.contents c.args.writer.now) c.args.reads.now c.arrive.new.reads c.args.connection.now.input
    c.arrive.new.self read.0 c.in-Ended.ended read.1 read.2
    (some_arrives (c.args.connection.now.input ++ read.0) c.arrive.new.self c.in-Ok-Some.field-0 c.in-Ok-Some.arrived
    (Arrived.Ended c.in-Ended.ended) c.in-Ok-Some.field-0-is c.in-Ended.is read.3)
    (ended_through (g.R.Source.remaining c.arrive.new.reader) c.in-Ok-Some.field-0 c.in-Ok-Some.arrived c.in-Ended.ended c.in-Ok-Some.field-0-is
    c.in-Ended.is c.in-Ok-Some.ensures.end)
