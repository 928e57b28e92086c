-- The slice is the row.
use Rattle.tfs_planes.proofs.PlaneLemmas.{row_slice}
use Rattle.tfs_planes.proofs.cells.row_at.Goals as goal

pub returns-clause-row : goal.returns-clause-row
returns-clause-row c = row_slice c.args.stride c.args.i c.args.words.now
