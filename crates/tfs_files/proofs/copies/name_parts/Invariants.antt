-- The part files so far have their outcome.
use Rattle.tfs_files.specs.Copies.{AreNamed, IsLastNamed}
use Rattle.tfs_files.proofs.copies.name_parts.Given as goal

abbrev pub invariant-loop-number : goal.invariant-loop-number
invariant-loop-number g l = AreNamed l.to l.parts l.newest l.number-index × IsLastNamed l.to l.parts l.newest l.number-index l.named
