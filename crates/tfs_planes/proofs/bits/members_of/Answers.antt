-- Each step handles the next number.
use Rattle.std.proofs.Common.{sym, ◌∙◌}
use Rattle.tfs_planes.specs.Row.{bit_at_word, members_of}
use Rattle.tfs_planes.proofs.BitLemmas.{filter_range_takes, filter_range_skips}
use Rattle.tfs_planes.proofs.bits.members_of.Goals as goal
use Rattle.tfs_planes.proofs.bits.members_of.Goals.{then-bit+in_ok-push, else-bit}

pub loop-i-init : goal.loop-i-init
unfolding members_of
loop-i-init g c = c.new-numbers.ensures.items

pub loop-i-preserved : goal.loop-i-preserved
unfolding members_of
loop-i-preserved g c =
    let p = bit_at_word c.args.words.now in
    let i = c.loop-i.i in
    let before = c.loop-i.numbers.items in
    elim c.if-bit.branch [
      | then-bit+in_ok-push w ↦ let takes = filter_range_takes p i before (sym c.bit.ensures ∙ w.if-bit.true) c.loop-i.invariant in
          cc w.in_ok-push.ensures.items
      | else-bit w ↦ let skips = filter_range_skips p i before (sym c.bit.ensures ∙ w.if-bit.false) c.loop-i.invariant in cc
    ]
