-- The row is united with the rows of its targets, and every other row is unchanged.
use Rattle.std.proofs.Common.{◌≤◌, ◌+◌, ◌-◌, ◌*◌, length, bit_or, ap, ◌∙◌, arith}
use Rattle.std.specs.Simd.Lanes.{zip2}
use Rattle.tfs_planes.specs.Plane.{row_words}
use Rattle.tfs_planes.proofs.PlaneLemmas.{row_fits, row_slice, row_put, row_put_other, length-row_words}
use Rattle.tfs_planes.proofs.PlacingLemmas.{placed_closed, placing_more}
use Rattle.tfs_planes.proofs.TargetLemmas.{gathers_all}
use borrow.Rule.Slice.PartMut.{put_mid}
use Rattle.tfs_planes.proofs.placing.place.Goals as goal

pub returns-clause-placing : goal.returns-clause-placing
returns-clause-placing c = λ related placing.
    let s = length c.args.came.now in
    let words = c.args.words.now in
    let row = c.args.row in
    let placed = c.args.placed.now in
    let came = c.gather-are_placed.new.came in
    let united = c.union_blocks.new.words in
    let size = row * s + s - row * s in
    let fits = row_fits row c.args.count s c.requires.row in
    let room : row * s + s ≤ length words = omega (arith, c.requires.lengths) in
    let long = length-row_words s row words room in
    let slice = row_slice s row words in
    let wide = c.union_blocks.auto.words ∙ ap length slice ∙ long in
    let first = c.begin.auto.came in
    let gathers =
    gathers_all s (length c.begin.new.came) words (row_words s words row) c.row_at-own.result.now row placed c.begin.new.came came
    first c.row_at-own.ensures.row c.begin.ensures (c.gather-are_placed.ensures c.if-not-are_placed.false) (placed_closed s words placed related placing) in
    placing_more s words placed came (put_mid (row * s) size words united) c.set_bit.new.words row related placing c.begin.new.came gathers long
    (c.gather-are_placed.auto.came ∙ first)
    (row_put s row size words united (omega arith) room wide ∙ c.union_blocks.ensures ∙ ap (λ r. zip2 bit_or r came) slice)
    (λ i other. row_put_other s row size i words united (omega arith) room wide other) c.set_bit.ensures
