use Rattle.std.proofs.Common.{◌≡◌, length, ◌/◌, ◌∙◌, ap, arith}
use Rattle.tfs_digests.specs.Blocks.{block_of}
use Rattle.tfs_digests.proofs.BlockLemmas.{whole_block, first_block_of_end, second_block_of_end}
use Rattle.tfs_digests.proofs.message.Message.block.Goals as goal

pub returns-then-i-whole-clause-bytes : goal.returns-then-i-whole-clause-bytes
returns-then-i-whole-clause-bytes c = λ low.
    whole_block c.self.inside.text.now c.args.i c.if-i-whole.true ∙ ap (λ m. block_of m c.args.i) c.self.view_is

pub returns-then-i-whole-2-clause-bytes : goal.returns-then-i-whole-2-clause-bytes
returns-then-i-whole-2-clause-bytes c = λ low.
    let here : length c.self.inside.text.now / 64 ≡ c.args.i = omega arith in
    first_block_of_end c.self.inside.text.now c.self.inside.end c.self.invariant
    ∙ ap (block_of c.self.inside.text.now) here ∙ ap (λ m. block_of m c.args.i) c.self.view_is

pub returns-else-i-whole-2-clause-bytes : goal.returns-else-i-whole-2-clause-bytes
returns-else-i-whole-2-clause-bytes c = λ low.
    second_block_of_end c.self.inside.text.now c.self.inside.end c.args.i c.self.invariant (omega arith) (rw c.self.view_is low) (omega arith)
    ∙ ap (λ m. block_of m c.args.i) c.self.view_is
