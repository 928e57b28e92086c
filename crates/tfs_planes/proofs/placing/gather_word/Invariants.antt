-- The remaining bits are placed targets, and the rows of the word's other targets are collected.
use Rattle.std.proofs.Common.{◌≡◌, ℕ, ◌+◌, ◌*◌, IsTrue}
use Rattle.std.specs.Int.{bit_at}
use Rattle.tfs_planes.specs.Row.{bit_at_word}
use Rattle.tfs_planes.specs.Targets.{IsTarget, ArePlacedClosed, HasCome}
use Rattle.tfs_planes.proofs.TargetLemmas.{TakesWord}
use Rattle.tfs_planes.proofs.placing.gather_word.Given as goal

abbrev pub invariant-loop-left : goal.invariant-loop-left
invariant-loop-left l = record {
  target : (k : ℕ) → bit_at l.left k ≡ 1 → IsTarget l.own l.row (64 * l.word + k);
  placed : (k : ℕ) → bit_at l.left k ≡ 1 → IsTrue (bit_at_word l.placed (64 * l.word + k));
  takes : ArePlacedClosed l.stride l.words l.placed → HasCome l.stride l.words l.own l.row l.initial.came →
      TakesWord l.stride l.words l.own l.row l.initial.came l.came l.word l.left;
}

abbrev pub decreases-loop-left : goal.decreases-loop-left
decreases-loop-left l = l.left
