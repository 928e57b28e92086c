-- No row is placed at the start, and all rows are placed at the end.
use Rattle.std.proofs.Common.{sym, ◌∙◌, IsTrue}
use Rattle.std.proofs.lemmas.Bool.{false≢true}
use Rattle.tfs_planes.specs.Plane.{cell_at}
use Rattle.tfs_planes.proofs.BitLemmas.{bit_at_word-zeros}
use Rattle.tfs_planes.proofs.RoundLemmas.{row_of_set_cell}
use Rattle.tfs_planes.proofs.PlacingLemmas.{placing_none}
use Rattle.tfs_planes.proofs.WalkLemmas.{start_of_joins}
use Rattle.tfs_planes.proofs.placing.close_in_order.Goals as goal

pub loop-k-init : goal.loop-k-init
loop-k-init g c = record {
  within = λ t is. absurd (false≢true (sym (bit_at_word-zeros 64 t) ∙ is));
  placing = placing_none c.args.stride 64 c.args.words.now;
}

pub returns-clause-between : goal.returns-clause-between
returns-clause-between g c = record { grown = c.loop-k.invariant.placing.grown; sound = c.loop-k.invariant.placing.sound }

pub returns-clause-closed : goal.returns-clause-closed
returns-clause-closed g c = λ all i j.
    let s = c.args.stride in
    let words = c.args.words.now in
    let placing = c.loop-k.invariant.placing in (
      placing.sound i j,
      λ walk.
          let start = start_of_joins (λ a b. IsTrue (cell_at s words a b)) i j walk in
          placing.closed i j (c.are_all_placed.ensures all i (row_of_set_cell s c.args.count words i start.0 c.requires.lengths start.1)) walk,
    )
