-- The pairs so far are those of the rows so far.
use Rattle.std.proofs.Common.{take}
use Rattle.std.specs.List.{AllZip}
use Rattle.tfs_store.specs.Rows.{SpellsRow}
use Rattle.tfs_store.proofs.rows.read_rows.Given as goal

abbrev pub invariant-loop-pair : goal.invariant-loop-pair
invariant-loop-pair l = AllZip (SpellsRow l.prefix) (take l.pair-index l.pairs) l.rows.items
