-- The names of the history and the ledger that were just opened, and the journal of the table.
use Rattle.std.proofs.Common.{length}
use Rattle.tfs_serve.proofs.run.serve_until.Given as goal

abbrev pub ghosts-serve_named-J-Naming : goal.ghosts-serve_named-J-Naming
ghosts-serve_named-J-Naming g a = record { book = a.blanks.opened; opening = a.table.journal; sessions = length a.asked.gates.items }

abbrev pub ghosts-serve_named-J-Ledger : goal.ghosts-serve_named-J-Ledger
ghosts-serve_named-J-Ledger g a = record { name = a.blanks.blank.name; parts = a.blanks.blank.parts }
