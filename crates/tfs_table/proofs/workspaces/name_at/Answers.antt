-- The name of a number is the name of the workspace with the number.
use Rattle.std.proofs.Common.{Some, None, sym}
use Rattle.tfs_table.proofs.NumberLemmas.{named_by_number}
use Rattle.tfs_table.proofs.workspaces.name_at.Goals as goal

pub returns-in-Some : goal.returns-in-Some
returns-in-Some c = λ j are.
    named_by_number j c.args.workspaces.now c.args.number (Some c.in-Some.workspace.now) (sym c.in-Some.ensures) are

pub returns-in-None : goal.returns-in-None
returns-in-None c = λ j are. named_by_number j c.args.workspaces.now c.args.number None (sym c.in-None.ensures) are
