-- Each gate so far has a member, and as many sessions are left as gates.
use Rattle.std.proofs.Common.{◌≡◌, ◌+◌, ◌≤◌, length, map, vec_capacity}
use Rattle.tfs_shared.specs.View.{AreNew}
use Rattle.tfs_serve.proofs.Returning.{HaveNumbers}
use Rattle.tfs_serve.proofs.crew.make_members.Given as goal

abbrev pub invariant-loop-gate : goal.invariant-loop-gate
invariant-loop-gate g l = record {
  gates : map (λ member. member.gate) l.members.items ≡ l.yielded;
  sessions : HaveNumbers (λ member. member.session) g.J.Naming.opening l.fn.stopped (length l.fn.gates.items) l.members.items;
  room : length l.fn.gates.items ≤ vec_capacity l.members;
  left : length l.sessions.items + length l.yielded ≡ length l.fn.gates.items;
  new : AreNew g.J.Naming.opening l.fn.stopped (length l.sessions.items) l.sessions.items;
}
