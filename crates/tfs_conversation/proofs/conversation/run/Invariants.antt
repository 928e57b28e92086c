-- The turns so far have replied to the messages before the input that is left.
use Rattle.std.proofs.Common.{◌≡◌}
use Rattle.tfs_conversation.specs.Turns.{moment, Went, work_left}
use Rattle.tfs_conversation.proofs.conversation.run.Given as goal

abbrev pub invariant-loop-end : goal.invariant-loop-end
invariant-loop-end g l = record {
  went : Went g.D.OwedDesk.step
      (moment l.fn.desk (g.R.Source.remaining l.fn.reader, g.R.Source.taken l.fn.reader) (g.W.Outlet.contents l.fn.writer) l.fn.reads l.fn.connection.input)
      (moment l.desk (g.R.Source.remaining l.reader, g.R.Source.taken l.reader) (g.W.Outlet.contents l.writer) l.reads l.connection.input);
  reader : g.R.Source.failed l.reader ≡ g.R.Source.failed l.fn.reader;
  writer : g.W.Outlet.failed l.writer ≡ g.W.Outlet.failed l.fn.writer;
}

abbrev pub decreases-loop-end : goal.decreases-loop-end
decreases-loop-end g l = work_left l.reads l.connection.input
