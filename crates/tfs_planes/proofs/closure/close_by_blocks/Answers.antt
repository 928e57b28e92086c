-- The invariant holds before the first block and after each block, and after the last it gives the
-- closure.
use Rattle.std.proofs.Common.{◌≡◌, ◌+◌, ◌*◌, min, IsTrue, subst, arith}
use Rattle.tfs_planes.specs.Plane.{cell_at}
use Rattle.tfs_planes.specs.Rounds.{AllJoins}
use Rattle.tfs_planes.proofs.RoundLemmas.{no_round_walks, all_rounds_walks}
use Rattle.tfs_planes.proofs.closure.close_by_blocks.Goals as goal

pub loop-block-init : goal.loop-block-init
loop-block-init c =
    let none : 0 ≡ min 0 c.args.count = omega arith in
    subst (AllJoins c.args.stride c.args.words.now (cell_at c.args.stride c.args.words.now)) none
    (no_round_walks (λ a b. IsTrue (cell_at c.args.stride c.args.words.now a b)))

pub loop-block-preserved : goal.loop-block-preserved
loop-block-preserved c =
    let block = c.loop-block.block in
    let related = cell_at c.args.stride c.args.words.now in
    let from : min (block * 64) c.args.count ≡ block * 64 = omega arith in
    let to : block * 64 + c.min.result ≡ min ((block + 1) * 64) c.args.count = omega arith in
    subst (AllJoins c.args.stride c.advance.new.words related) to
    (c.advance.ensures related (subst (AllJoins c.args.stride c.loop-block.words related) from c.loop-block.invariant))

pub returns : goal.returns
returns c =
    let related = cell_at c.args.stride c.args.words.now in
    let all : min (c.loop-block.block * 64) c.args.count ≡ c.args.count = omega arith in
    all_rounds_walks c.args.stride c.args.count c.args.words.now c.loop-block.words c.requires.lengths
    (subst (AllJoins c.args.stride c.loop-block.words related) all c.loop-block.invariant)
