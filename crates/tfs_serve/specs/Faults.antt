-- Faults that end the work of workers.
use Rattle.std.specs.Prelude.{Option, Some, None, List, [], ◌∷◌}
use Rattle.tfs_connections.specs.Accepting.{IsFinal, error_of}
use Rattle.tfs_connections.specs.declared.accepting.AcceptFault.{AcceptFault}

-- If a fault has ended the worker, the listener is unusable after its error.
abbrev pub IsCaused : Option AcceptFault → Type 0
IsCaused None = Unit {0}
IsCaused (Some fault) = IsFinal (error_of fault)

-- The first fault in a list.
abbrev pub first_fault_in : List (Option AcceptFault) → Option AcceptFault
first_fault_in [] = None
first_fault_in (Some fault ∷ more) = Some fault
first_fault_in (None ∷ more) = first_fault_in more
