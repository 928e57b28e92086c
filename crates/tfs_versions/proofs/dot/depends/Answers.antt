-- The two tests of a dependency give the same result.
use Rattle.std.proofs.lemmas.Bool.Decides.{same_from_decides}
use Rattle.tfs_index.specs.Reach.{depends_on}
use Rattle.tfs_index.proofs.ReachLemmas.{depends_told}
use Rattle.tfs_versions.proofs.dot.depends.Goals as goal

pub returns : goal.returns
returns c =
    same_from_decides c.depends.result (depends_on c.args.doc.now c.args.u c.args.v) c.depends.ensures.value
    (depends_told c.args.doc.now c.args.u c.args.v)
