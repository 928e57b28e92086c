-- The sessions so far are new, and what is left has the other parts.
use Rattle.std.proofs.Common.{◌≡◌, ◌+◌, false}
use Rattle.tfs_shared.specs.Stops.{comes_faulted, weight}
use Rattle.tfs_shared.specs.View.{AreNew}
use Rattle.tfs_shared.proofs.sharing.sessions_of.Given as goal

abbrev pub invariant-loop-made : goal.invariant-loop-made
invariant-loop-made g l = record {
  value : AreNew g.J.Naming.opening l.stopped l.made l.sessions.items;
  parts : l.rest.parts + l.made ≡ l.number;
  amount : l.rest.amount ≡ weight 0 (comes_faulted l.stopped l.made) false;
}
