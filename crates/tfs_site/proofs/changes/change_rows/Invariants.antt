-- The rows of the changes so far.
use Rattle.std.proofs.Common.{◌≡◌, map, take}
use Rattle.serde_json.specs.View.{view}
use Rattle.tfs_site.specs.Changes.{change_row}
use Rattle.tfs_site.proofs.changes.change_rows.Given as goal

abbrev pub invariant-loop-change : goal.invariant-loop-change
invariant-loop-change l = map view l.rows.items ≡ map change_row (take l.change-index l.changes)
