-- The first fault of all workers is the first of those that are left.
use Rattle.std.proofs.Common.{◌≡◌, map, drop}
use Rattle.tfs_serve.specs.Faults.{first_fault_in}
use Rattle.tfs_serve.proofs.run.first_fault.Given as goal

abbrev pub invariant-loop-one : goal.invariant-loop-one
invariant-loop-one g l = first_fault_in (map (λ one. one.fault) (drop l.one-index l.served)) ≡ first_fault_in (map (λ one. one.fault) l.served)
