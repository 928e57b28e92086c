-- The bytes read so far follow the first bytes.
use Rattle.std.proofs.Common.{◌≡◌, ◌-◌, ℕ, List, Option, length}
use Rattle.std.specs.Io.KnownBytes.{Consumes}
use Rattle.tfs_folder.proofs.front.read_up_to.Given as goal

abbrev pub invariant-loop-front : goal.invariant-loop-front
invariant-loop-front g l = record {
  piece : length l.piece.items ≡ 65536;
  more : (old : Option (List ℕ)) → Consumes old (g.S.Source.remaining l.initial.source) l.initial.front.items
      → Consumes old (g.S.Source.remaining l.source) l.front.items;
}

abbrev pub decreases-loop-front : goal.decreases-loop-front
decreases-loop-front g l = l.count - length l.front.items
