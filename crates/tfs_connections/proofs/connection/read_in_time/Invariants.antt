-- The attempts so far consumed no bytes.
use Rattle.std.specs.Io.KnownBytes.{Keeps}
use Rattle.tfs_connections.proofs.connection.read_in_time.Given as goal

abbrev pub invariant-loop-look : goal.invariant-loop-look
invariant-loop-look g l = Keeps (g.S.Read.remaining l.fn.stream) (g.S.Read.remaining l.stream)
