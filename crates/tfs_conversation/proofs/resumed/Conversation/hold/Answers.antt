-- A turn is told from the moments before and after it, whose input is what earlier turns and this
-- one left.
use Rattle.std.proofs.Common.{refl, subst}
use Rattle.tfs_conversation.specs.Turns.{Left, moment, HasTurned}
use Rattle.tfs_conversation.proofs.ResumedLemmas.{Speaks, speaks, turned, unread_fits}
use Rattle.tfs_conversation.proofs.resumed.Conversation.hold.Goals as goal

pub invariant_of-left : goal.invariant_of-left
invariant_of-left g c =
    unread_fits g.D.OwedDesk.step
    (moment c.args.desk.now (g.R.Source.remaining c.args.reader.now, g.R.Source.taken c.args.reader.now) (g.W.Outlet.contents c.args.writer.now)
    c.self.inside.reads c.self.inside.connection.input)
    (moment c.run-end.new.desk (g.R.Source.remaining c.run-end.new.reader, g.R.Source.taken c.run-end.new.reader) (g.W.Outlet.contents c.run-end.new.writer)
    c.run-end.new.reads c.run-end.new.connection.input)
    c.self.invariant c.run-end.result (c.if-is_unread.ensures.0 refl) c.run-end.ensures.fault

pub returns-then-is_unread-clause-spoken : goal.returns-then-is_unread-clause-spoken
returns-then-is_unread-clause-spoken g c =
    subst (λ (l : Left). Speaks g.D.OwedDesk.step
    (moment c.args.desk.now (g.R.Source.remaining c.args.reader.now, g.R.Source.taken c.args.reader.now) (g.W.Outlet.contents c.args.writer.now) l.reads l.rest)
    (moment c.run-end.new.desk (g.R.Source.remaining c.run-end.new.reader, g.R.Source.taken c.run-end.new.reader) (g.W.Outlet.contents c.run-end.new.writer)
    c.run-end.new.reads c.run-end.new.connection.input) l.rest) c.self.view_is
    (speaks g.D.OwedDesk.step
    (moment c.args.desk.now (g.R.Source.remaining c.args.reader.now, g.R.Source.taken c.args.reader.now) (g.W.Outlet.contents c.args.writer.now)
    c.self.inside.reads c.self.inside.connection.input)
    (moment c.run-end.new.desk (g.R.Source.remaining c.run-end.new.reader, g.R.Source.taken c.run-end.new.reader) (g.W.Outlet.contents c.run-end.new.writer)
    c.run-end.new.reads c.run-end.new.connection.input)
    c.self.invariant c.run-end.result (turned g.D.OwedDesk.step
    (moment c.args.desk.now (g.R.Source.remaining c.args.reader.now, g.R.Source.taken c.args.reader.now) (g.W.Outlet.contents c.args.writer.now)
    c.self.inside.reads c.self.inside.connection.input)
    (moment c.run-end.new.desk (g.R.Source.remaining c.run-end.new.reader, g.R.Source.taken c.run-end.new.reader) (g.W.Outlet.contents c.run-end.new.writer)
    c.run-end.new.reads c.run-end.new.connection.input)
    c.run-end.result c.run-end.ensures.ended c.run-end.ensures.fault))

pub returns-clause-turn : goal.returns-clause-turn
returns-clause-turn g c = (
  record { rest = c.run-end.new.connection.input; reads = c.run-end.new.reads },
  subst (λ (l : Left). HasTurned g.D.OwedDesk.step
      (moment c.args.desk.now (g.R.Source.remaining c.args.reader.now, g.R.Source.taken c.args.reader.now) (g.W.Outlet.contents c.args.writer.now) l.reads l.rest)
      (moment c.run-end.new.desk (g.R.Source.remaining c.run-end.new.reader, g.R.Source.taken c.run-end.new.reader) (g.W.Outlet.contents c.run-end.new.writer)
      c.run-end.new.reads c.run-end.new.connection.input) c.run-end.result) c.self.view_is
      (turned g.D.OwedDesk.step
      (moment c.args.desk.now (g.R.Source.remaining c.args.reader.now, g.R.Source.taken c.args.reader.now) (g.W.Outlet.contents c.args.writer.now)
      c.self.inside.reads c.self.inside.connection.input)
      (moment c.run-end.new.desk (g.R.Source.remaining c.run-end.new.reader, g.R.Source.taken c.run-end.new.reader) (g.W.Outlet.contents c.run-end.new.writer)
      c.run-end.new.reads c.run-end.new.connection.input)
      c.run-end.result c.run-end.ensures.ended c.run-end.ensures.fault),
  tt,
)

pub returns-clause-spoken : goal.returns-clause-spoken
returns-clause-spoken g c =
    subst (λ (l : Left). Speaks g.D.OwedDesk.step
    (moment c.args.desk.now (g.R.Source.remaining c.args.reader.now, g.R.Source.taken c.args.reader.now) (g.W.Outlet.contents c.args.writer.now) l.reads l.rest)
    (moment c.run-end.new.desk (g.R.Source.remaining c.run-end.new.reader, g.R.Source.taken c.run-end.new.reader) (g.W.Outlet.contents c.run-end.new.writer)
    c.run-end.new.reads c.run-end.new.connection.input) l.rest) c.self.view_is
    (speaks g.D.OwedDesk.step
    (moment c.args.desk.now (g.R.Source.remaining c.args.reader.now, g.R.Source.taken c.args.reader.now) (g.W.Outlet.contents c.args.writer.now)
    c.self.inside.reads c.self.inside.connection.input)
    (moment c.run-end.new.desk (g.R.Source.remaining c.run-end.new.reader, g.R.Source.taken c.run-end.new.reader) (g.W.Outlet.contents c.run-end.new.writer)
    c.run-end.new.reads c.run-end.new.connection.input)
    c.self.invariant c.run-end.result (turned g.D.OwedDesk.step
    (moment c.args.desk.now (g.R.Source.remaining c.args.reader.now, g.R.Source.taken c.args.reader.now) (g.W.Outlet.contents c.args.writer.now)
    c.self.inside.reads c.self.inside.connection.input)
    (moment c.run-end.new.desk (g.R.Source.remaining c.run-end.new.reader, g.R.Source.taken c.run-end.new.reader) (g.W.Outlet.contents c.run-end.new.writer)
    c.run-end.new.reads c.run-end.new.connection.input)
    c.run-end.result c.run-end.ensures.ended c.run-end.ensures.fault))
