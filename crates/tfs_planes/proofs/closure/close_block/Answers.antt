-- Each step is one round, and the last round closes the block.
use Rattle.std.proofs.Common.{◌≡◌, ◌+◌, subst, ◌∙◌, arith}
use Rattle.tfs_planes.specs.Rounds.{BlockJoins}
use Rattle.tfs_planes.proofs.RoundLemmas.{round_walks}
use Rattle.tfs_planes.proofs.closure.close_block.Goals as goal

pub loop-k-preserved : goal.loop-k-preserved
loop-k-preserved c = λ related start.
    round_walks c.args.stride c.args.width c.loop-k.k c.args.first c.loop-k.block c.round.new.words (c.loop-k.auto.block ∙ c.requires.lengths) (omega arith)
    c.round.ensures.kept c.round.ensures.others related (c.loop-k.invariant related start)

pub returns : goal.returns
returns c = λ related start.
    let all : c.loop-k.k ≡ c.args.width = omega arith in
    subst (λ k. BlockJoins c.args.stride c.loop-k.block c.args.width c.args.first related (c.args.first + k)) all (c.loop-k.invariant related start)
