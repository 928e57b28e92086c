-- The attempts so far wrote no bytes.
use Rattle.std.specs.Io.KnownBytes.{Keeps}
use Rattle.tfs_connections.proofs.connection.write_in_time.Given as goal

abbrev pub invariant-loop-look : goal.invariant-loop-look
invariant-loop-look g l = Keeps (g.S.Write.contents l.fn.stream) (g.S.Write.contents l.stream)
