-- The session has advanced, and the texts are of its replies.
use Rattle.std.proofs.Common.{[]}
use Rattle.tfs_serve.specs.Session.{IsLater}
use Rattle.tfs_serve.specs.Working.{HasReplied}
use Rattle.tfs_serve.proofs.serving.work_over.Given as goal

abbrev pub invariant-loop : goal.invariant-loop
invariant-loop g l =
    (goal.iterator-loop g).can_next l.iterator' × (goal.iterator-loop g).is_finite l.iterator' × IsLater l.fn.session l.session
    × HasReplied g.H.Hold.durable g.J.Naming.opening (g.G.Gate.told l.fn.gate) (g.G.Gate.told l.gate) l.fn.session l.session [] l.fn.reception.written
    l.reception.written
