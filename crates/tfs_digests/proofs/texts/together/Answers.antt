use Rattle.std.proofs.Common.{refl, ◌∙◌, arith}
use Rattle.tfs_digests.proofs.HashLemmas.{hash_of_none, goes_on, digest_is}
use Rattle.tfs_digests.proofs.texts.together.Goals as goal

pub loop-i-init : goal.loop-i-init
loop-i-init c =
    let first = c.first_hashes-state.ensures in (
      first 0 (omega arith) ∙ hash_of_none c.args.a.now,
      first 1 (omega arith) ∙ hash_of_none c.args.b.now,
      first 2 (omega arith) ∙ hash_of_none c.args.c.now,
      first 3 (omega arith) ∙ hash_of_none c.args.d.now,
    )

pub loop-i-preserved : goal.loop-i-preserved
loop-i-preserved c =
    let held = c.loop-i.invariant in
    let words = c.words_of-words.ensures in
    let next = c.compress-next.ensures in
    let after = c.next_states-after.ensures in (
      goes_on c.args.a.now _ _ _ _ _ c.loop-i.i held.0 c.block.ensures.bytes words.0 (next 0 (omega arith)) (rw (← c.blocks-2.ensures) (after 0 (omega arith))),
      goes_on c.args.b.now _ _ _ _ _ c.loop-i.i held.1 c.block-in-loop-i.ensures.bytes words.1 (next 1 (omega arith)) (rw (← c.blocks-3.ensures) (after 1 (omega arith))),
      goes_on c.args.c.now _ _ _ _ _ c.loop-i.i held.2 c.block-in-loop-i-2.ensures.bytes words.2 (next 2 (omega arith)) (rw (← c.blocks-4.ensures) (after 2 (omega arith))),
      goes_on c.args.d.now _ _ _ _ _ c.loop-i.i held.3 c.block-in-loop-i-3.ensures.bytes words.3 (next 3 (omega arith)) (rw (← c.blocks-5.ensures) (after 3 (omega arith))),
    )

pub returns : goal.returns
returns c =
    let held = c.loop-i.invariant in
    c.bytes_of_lanes.ensures
    ∙ rw (
      digest_is c.args.a.now _ c.loop-i.i held.0 (omega arith),
      digest_is c.args.b.now _ c.loop-i.i held.1 (omega arith),
      digest_is c.args.c.now _ c.loop-i.i held.2 (omega arith),
      digest_is c.args.d.now _ c.loop-i.i held.3 (omega arith),
    ) refl
