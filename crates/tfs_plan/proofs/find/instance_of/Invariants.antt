-- No instance so far has the address.
use Rattle.std.proofs.Common.{◌≡◌, ◌≢◌, ◌<◌, ℕ, length, Some}
use Rattle.tfs_state.specs.Dependency.{address_of}
use Rattle.tfs_plan.proofs.find.instance_of.Given as goal

abbrev pub invariant-loop-v : goal.invariant-loop-v
invariant-loop-v l = (u : ℕ) → u < l.v → address_of l.doc u ≢ Some l.address
