-- The lists are equal if their blocks and the words after them are equal.
use Rattle.std.proofs.Common.{◌*◌, ◌/◌, ◌-◌, List, ℕ, length, take, drop, refl, sym, ap, ◌∙◌}
use Rattle.std.proofs.lemmas.Bool.Decides.{Decides-eqb}
use Rattle.std.proofs.lemmas.List.{take_rest}
use Rattle.std.proofs.lemmas.Slice.Eq.{slice_eq-Decides}
use Rattle.tfs_planes.proofs.KernelLemmas.{same_parts}
use Rattle.tfs_planes.proofs.kernels.equal_words.Goals as goal

pub returns-then-equal_blocks : goal.returns-then-equal_blocks
returns-then-equal_blocks c = record {
  equal =
      let xs = c.args.left.now in
      let ys = c.args.right.now in
      let n = length xs / 8 * 8 in
      let rest = slice_eq-Decides Decides-eqb _ _ _ c.eq.ensures in (
        λ equal. same_parts n xs ys (c.if-equal_blocks.ensures.0 refl) (sym (take_rest xs n) ∙ rest.0 equal ∙ take_rest ys n),
        λ same. rest.1 (ap (λ (zs : List ℕ). take (length zs - n) (drop n zs)) same),
      );
}
