-- The names of the history and the ledger that were just opened, and the journal of the table.
use Rattle.tfs_tests.proofs.shared.play_scene.Given as goal

abbrev pub ghosts-play-J-Naming : goal.ghosts-play-J-Naming
ghosts-play-J-Naming g a = record { book = a.opened; opening = a.table.journal; sessions = a.number }

abbrev pub ghosts-play-J-Ledger : goal.ghosts-play-J-Ledger
ghosts-play-J-Ledger g a = record { name = a.blank.name; parts = a.blank.parts }
