-- The bit of the row is the cell.
use Rattle.std.proofs.Common.{ap, ◌∙◌}
use Rattle.tfs_planes.specs.Plane.{cell_at}
use Rattle.tfs_planes.specs.Row.{bit_at_word}
use Rattle.tfs_planes.proofs.cells.cell.Goals as goal

pub returns : goal.returns
unfolding cell_at
returns c = c.bit.ensures ∙ ap (λ row. bit_at_word row c.args.j) c.row_at.ensures.row
