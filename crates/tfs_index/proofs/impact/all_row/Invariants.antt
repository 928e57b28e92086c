-- The row has what the first text and each text before the current one reach.
use Rattle.std.proofs.Common.{◌≡◌, ℕ, length, take, ◌&&◌}
use Rattle.std.specs.FinSet as set
use Rattle.std.specs.List.{list_all}
use Rattle.tfs_index.specs.Impact.{is_reached}
use Rattle.tfs_index.proofs.impact.all_row.Given as goal

abbrev pub invariant-loop-text : goal.invariant-loop-text
invariant-loop-text l = record {
  size : l.row.size ≡ length l.fn.doc.instances;
  other : l.other.size ≡ length l.fn.doc.instances;
  members : (u : ℕ) → set.contains l.row.members u
      ≡ (set.contains l.initial.row.members u && list_all (λ text. is_reached l.fn.doc text.now u) (take l.text-index l.fn.texts));
}
