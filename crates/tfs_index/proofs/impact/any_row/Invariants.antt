-- The row has what some text before the current one reaches.
use Rattle.std.proofs.Common.{◌≡◌, ℕ, length, take}
use Rattle.std.specs.FinSet as set
use Rattle.std.specs.List.{list_any}
use Rattle.tfs_index.specs.Impact.{is_reached}
use Rattle.tfs_index.proofs.impact.any_row.Given as goal

abbrev pub invariant-loop-text : goal.invariant-loop-text
invariant-loop-text l = record {
  size : l.row.size ≡ length l.fn.doc.instances;
  members : (u : ℕ) → set.contains l.row.members u ≡ list_any (λ text. is_reached l.fn.doc text.now u) (take l.text-index l.fn.texts);
}
