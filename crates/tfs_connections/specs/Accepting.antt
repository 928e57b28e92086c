-- What to do after an error of accept (accept(2) and errno(3) of Linux).
use Rattle.std.specs.Prelude.{◌≡◌, ◌⊎◌, ℤ, pos, Option, Some, None, List, [], ◌∷◌, if◌then◌else◌}
use Rattle.std.specs.List.{list_any}
use Rattle.std.specs.Ordering.{int_eq}
use Rattle.std.specs.declared.io.ErrorKind.{ErrorKind}
use Rattle.std.specs.declared.io.ErrorKind.TheVariants as kind
use Rattle.tfs_connections.specs.declared.accepting.AcceptError.{AcceptError}
use Rattle.tfs_connections.specs.declared.accepting.AcceptFault.{AcceptFault}
use Rattle.tfs_connections.specs.declared.accepting.Remedy.{Remedy}
use Rattle.tfs_connections.specs.declared.accepting.Remedy.TheVariants.{Again, Pause, End}

-- Numbers of errors that the network reported for one connection: ENONET, EPROTO, ENOPROTOOPT,
-- EOPNOTSUPP, EHOSTDOWN.
abbrev pub numbers_of_a_connection : List ℤ
numbers_of_a_connection = pos 64 ∷ pos 71 ∷ pos 92 ∷ pos 95 ∷ pos 112 ∷ []

-- Numbers of errors for lack of descriptors or memory: ENFILE, EMFILE, ENOBUFS.
abbrev pub numbers_of_lack : List ℤ
numbers_of_lack = pos 23 ∷ pos 24 ∷ pos 105 ∷ []

-- What to do after an error, by its number.
abbrev pub remedy_by_number : Option ℤ → Remedy
remedy_by_number None = End
remedy_by_number (Some code) = if list_any (int_eq code) numbers_of_a_connection then Again
    else (if list_any (int_eq code) numbers_of_lack then Pause else End)

-- What to do after an error, by its kind or, if the kind doesn't decide it, by its number.
abbrev pub remedy_for : ErrorKind → Option ℤ → Remedy
remedy_for kind.ConnectionAborted code = Again
remedy_for kind.Interrupted code = Again
remedy_for kind.WouldBlock code = Again
remedy_for kind.PermissionDenied code = Again
remedy_for kind.NetworkDown code = Again
remedy_for kind.NetworkUnreachable code = Again
remedy_for kind.HostUnreachable code = Again
remedy_for kind.OutOfMemory code = Pause
remedy_for unsaid code = remedy_by_number code

-- The error that made a listener unusable.
abbrev pub error_of : AcceptFault → AcceptError
error_of fault = fault.error

-- The listener is unusable after this error.
abbrev pub IsFinal : AcceptError → Type 0
IsFinal error = remedy_for error.kind error.number ≡ End

-- A listener has reported an error, and its last one is transient.
abbrev pub HasPassed : Option AcceptError → Type 0
HasPassed None = ⊥
HasPassed (Some error) = (remedy_for error.kind error.number ≡ Again) ⊎ (remedy_for error.kind error.number ≡ Pause)
