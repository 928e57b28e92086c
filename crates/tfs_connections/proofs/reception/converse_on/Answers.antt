-- If the connection is gone, no byte is read or written, and the desk doesn't change.
use Rattle.tfs_conversation.proofs.StepLemmas.{talked_no_bytes}
use Rattle.tfs_connections.proofs.reception.converse_on.Goals as goal

pub returns-in_default : goal.returns-in_default
returns-in_default g c = record {
  talked = talked_no_bytes g.D.OwedDesk.step c.args.desk.now c.new.result.read.bytes c.new.result.written.bytes c.new.ensures.read
      c.new.ensures.written;
}

pub returns-then-is_err : goal.returns-then-is_err
returns-then-is_err g c = record {
  talked = talked_no_bytes g.D.OwedDesk.step c.args.desk.now c.new-then-is_err.result.read.bytes c.new-then-is_err.result.written.bytes
      c.new-then-is_err.ensures.read c.new-then-is_err.ensures.written;
}

pub returns-in_default-resume : goal.returns-in_default-resume
returns-in_default-resume g c = record {
  talked = talked_no_bytes g.D.OwedDesk.step c.args.desk.now c.new-in_default-resume.result.read.bytes
      c.new-in_default-resume.result.written.bytes c.new-in_default-resume.ensures.read
      c.new-in_default-resume.ensures.written;
}
