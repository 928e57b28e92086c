-- Transient errors of reads and writes.
use Rattle.std.specs.Prelude.{Bool, true, false}
use Rattle.std.specs.declared.io.ErrorKind.{ErrorKind}
use Rattle.std.specs.declared.io.ErrorKind.TheVariants as kind

-- Whether a read or a write is retried after an error of this kind: its wait timed out, or a signal
-- interrupted it.
abbrev pub is_passing : ErrorKind → Bool
is_passing kind.WouldBlock = true
is_passing kind.Interrupted = true
is_passing _ = false
