-- The row of the highest remaining bit is added.
use Rattle.std.proofs.Common.{◌≡◌, ℕ, ◌+◌, ◌*◌, length, get_or, bit_or, sym, ap, ◌∙◌, arith}
use Rattle.std.proofs.lemmas.Bool.{eq-eqb}
use Rattle.std.specs.Simd.Lanes.{zip2}
use Rattle.tfs_planes.proofs.BitLemmas.{bit_of_word}
use Rattle.tfs_planes.proofs.PlaneLemmas.{length-row_words}
use Rattle.tfs_planes.proofs.TakeLemmas.{bits_left_less, bits_left_before}
use Rattle.tfs_planes.proofs.TargetLemmas.{left_within, takes_word_start, takes_word_more, gathers_had, gathers_word}
use Rattle.tfs_planes.proofs.placing.gather_word.Goals as goal

pub loop-left-init : goal.loop-left-init
loop-left-init c =
    let word = c.args.word in
    let came = c.args.came.now in
    let placed = c.args.placed.now in
    let fits = (c.type_inv.came word).fits in
    let within = λ (k : ℕ). left_within c.targets_in.result (get_or came word 0) (get_or placed word 0) k c.targets_in.type_inv fits
    (c.type_inv.placed word).fits c.if-missing-ne0.false in
    record {
      target = λ k is. let at = within k is in (c.targets_in.ensures k at.0).0 at.1;
      placed = λ k is. let at = within k is in bit_of_word word k placed at.0 ∙ eq-eqb _ 1 at.2;
      takes = λ closed come. takes_word_start (length came) c.args.words.now c.args.own.now c.args.row came word c.targets_in.result fits
          c.targets_in.ensures come;
    }

pub loop-left-smaller : goal.loop-left-smaller
loop-left-smaller c = bits_left_less c.loop-left.left (get_or c.union_blocks.new.words c.args.word 0) c.highest_bit-k.result c.highest_bit-k.ensures.below
    (c.type_inv.came c.args.word).fits c.highest_bit-k.ensures.set

pub loop-left-preserved : goal.loop-left-preserved
loop-left-preserved c =
    let s = length c.args.came.now in
    let word = c.args.word in
    let words = c.args.words.now in
    let left = c.loop-left.left in
    let k = c.highest_bit-k.result in
    let set = c.highest_bit-k.ensures.set in
    let inv = c.loop-left.invariant in
    let came = c.loop-left.came in
    let after = c.union_blocks.new.words in
    let is_placed = inv.placed k set in
    let long = c.loop-left.auto.came ∙ sym (length-row_words s (64 * word + k) words (c.requires.rows (64 * word + k) is_placed)) in
    let made = c.union_blocks.ensures ∙ ap (zip2 bit_or came) c.row_at.ensures.row in
    record {
      target = λ m is. inv.target m (bits_left_before left (get_or after word 0) k m is);
      placed = λ m is. inv.placed m (bits_left_before left (get_or after word 0) k m is);
      takes = λ closed come.
          takes_word_more s words c.args.own.now c.args.row c.args.placed.now c.args.came.now came after word left k closed (inv.takes closed come)
          c.highest_bit-k.ensures.below (inv.target k set) is_placed long made (c.type_inv.came word).fits;
    }

pub returns-then-own-word-eq0 : goal.returns-then-own-word-eq0
returns-then-own-word-eq0 c = λ is closed come.
    gathers_had (length c.args.came.now) c.args.words.now c.args.own.now c.args.row c.args.came.now c.args.word (c.type_inv.came c.args.word).fits
    c.if-own-word-eq0.true come

pub returns : goal.returns
returns c = λ is closed come.
    let none : c.loop-left.left ≡ 0 = omega arith in
    gathers_word (length c.args.came.now) c.args.words.now c.args.own.now c.args.row c.args.came.now c.loop-left.came c.args.word c.loop-left.left none
    (c.loop-left.invariant.takes closed come)
