-- The writer has received the text except for the rest.
use Rattle.std.proofs.Common.{◌≡◌, ℕ, List, ◌++◌, length}
use Rattle.std.specs.Io.KnownBytes.{Appends}
use Rattle.tfs_http.proofs.output.write_out.Given as goal

abbrev pub invariant-loop-rest : goal.invariant-loop-rest
invariant-loop-rest g l = (part : List ℕ) × (l.text ≡ part ++ l.rest)
    × Appends (g.W.Outlet.contents l.initial.writer) (g.W.Outlet.contents l.writer) part
    × (g.W.Outlet.failed l.writer ≡ g.W.Outlet.failed l.initial.writer)

abbrev pub decreases-loop-rest : goal.decreases-loop-rest
decreases-loop-rest g l = length l.rest
