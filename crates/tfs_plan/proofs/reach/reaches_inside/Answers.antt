-- The two tests of reach give the same result.
use Rattle.std.proofs.lemmas.Bool.Decides.{same_from_decides}
use Rattle.tfs_index.specs.Reach.{reaches}
use Rattle.tfs_index.proofs.ReachLemmas.{reach_told}
use Rattle.tfs_plan.proofs.reach.reaches_inside.Goals as goal

pub returns : goal.returns
returns c =
    same_from_decides c.reaches.result (reaches c.args.version.now c.args.v c.args.u) c.reaches.ensures.value
    (reach_told c.args.version.now c.args.v c.args.u)
