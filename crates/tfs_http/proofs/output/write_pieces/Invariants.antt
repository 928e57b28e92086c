-- The writer has received the body except for the current piece and what is left after it.
use Rattle.std.proofs.Common.{◌≡◌, ◌+◌, ℕ, List, ◌++◌, length}
use Rattle.std.specs.Io.KnownBytes.{Appends}
use Rattle.tfs_escapes.specs.Room.{HasRoom}
use Rattle.tfs_http.proofs.output.write_pieces.Given as goal

abbrev pub invariant-pieces : goal.invariant-pieces
invariant-pieces g l = (sent : List ℕ) × (l.initial.text.items ++ l.initial.left ≡ sent ++ (l.text.items ++ l.left))
    × Appends (g.W.Outlet.contents l.initial.writer) (g.W.Outlet.contents l.writer) sent
    × HasRoom l.text 65536 × (g.W.Outlet.failed l.writer ≡ g.W.Outlet.failed l.initial.writer)

abbrev pub decreases-pieces : goal.decreases-pieces
decreases-pieces g l = length l.text.items + length l.left
