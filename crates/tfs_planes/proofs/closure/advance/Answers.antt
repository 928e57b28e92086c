-- The block is closed, and the rows before and after it take it in.
use Rattle.std.proofs.Common.{◌≡◌, ◌+◌, ◌-◌, ◌*◌, ◌++◌, ap, ◌∙◌, arith}
use Rattle.std.proofs.Math.Nat.{mul-le-mul_right}
use Rattle.tfs_planes.proofs.BlockLemmas.{all_advance}
use Rattle.tfs_planes.proofs.closure.advance.Goals as goal

pub split_at_mut-block-requires : goal.split_at_mut-block-requires
split_at_mut-block-requires c = omega (arith, mul-le-mul_right c.args.stride c.requires.within, c.split_at_mut-before.ensures.back_len)

pub take_in_each-requires-2-clause-rows : goal.take_in_each-requires-2-clause-rows
take_in_each-requires-2-clause-rows c =
    let parts : c.args.count ≡ c.args.first + c.args.width + (c.args.count - c.args.first - c.args.width) = omega arith in
    omega (arith, ap (λ n. n * c.args.stride) parts, c.split_at_mut-before.ensures.back_len, c.split_at_mut-block.ensures.back_len)

pub returns : goal.returns
returns c =
    let first = c.split_at_mut-before.ensures in
    let second = c.split_at_mut-block.ensures in
    let before = c.split_at_mut-before.result.0.now in
    let block = c.split_at_mut-block.result.0.now in
    let after = c.split_at_mut-block.result.1.now in
    let whole = first.value ∙ ap (λ zs. before ++ zs) second.value in
    all_advance c.args.stride c.args.first c.args.width c.args.words.now before block after c.take_in_each.new.rows c.close_block.new.block
    c.take_in_each-2.new.rows
    whole first.front_len (c.take_in_each.auto.rows ∙ first.front_len) second.front_len (c.close_block.auto.block ∙ second.front_len)
    c.close_block.ensures c.take_in_each.ensures c.take_in_each-2.ensures
