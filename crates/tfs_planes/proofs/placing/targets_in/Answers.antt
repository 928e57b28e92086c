-- Every set bit except the row's own is a target.
use Rattle.tfs_planes.proofs.TargetLemmas.{targets_of_own_word, targets_of_word}
use Rattle.tfs_planes.proofs.placing.targets_in.Goals as goal

pub returns-then-word-row : goal.returns-then-word-row
returns-then-word-row c = λ k below.
    targets_of_own_word c.args.own.now c.args.row c.args.word k (c.type_inv.own c.args.word).fits c.if-word-row.true below

pub returns-else-word-row : goal.returns-else-word-row
returns-else-word-row c = λ k below.
    targets_of_word c.args.own.now c.args.row c.args.word k c.if-word-row.false below
