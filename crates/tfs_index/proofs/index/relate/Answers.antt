-- Each step relates the next instance to those on which it depends.
use Rattle.std.proofs.Common.{◌∙◌, ◌&&◌, ◌||◌, ℕ, Bool, List, sym, ap, arith, eqb}
use Rattle.std.specs.FinSet.{contains, contains-empty}
use Rattle.std.specs.List.{list_any}
use Rattle.std.proofs.lemmas.Bool.{le-ltb}
use Rattle.tfs_planes.specs.Relation.{pair_cmp}
use Rattle.tfs_index.specs.Links.{has_number}
use Rattle.tfs_index.specs.Reach.{depends_on}
use Rattle.tfs_index.proofs.IndexLemmas.{numbers_told, instance_step, below_all}
use Rattle.tfs_index.proofs.index.relate.Goals as goal

pub loop-u-init : goal.loop-u-init
loop-u-init c = record {
  size = c.requires.size;
  pairs = λ v w. ap (λ s. contains s (v, w)) c.requires.empty ∙ contains-empty pair_cmp (v, w)
      ∙ sym (ap (λ b. b && depends_on c.args.doc.now w v) (le-ltb w 0 (omega arith)));
}

pub loop-u-preserved : goal.loop-u-preserved
loop-u-preserved c =
    let some : ℕ → Bool = λ v. list_any (λ k. has_number c.in_ok-links.links k v) c.dependencies.result.now in
    record {
      size = c.relate_all.ensures.size ∙ c.loop-u.invariant.size;
      pairs = λ v w. c.relate_all.ensures.pairs v w
          ∙ ap (λ b. b || (eqb w c.loop-u.u && some v)) (c.loop-u.invariant.pairs v w)
          ∙ instance_step w c.loop-u.u (depends_on c.args.doc.now w v) (some v) (λ e.
          ap (λ (xs : List ℕ). list_any (λ k. has_number xs k v) c.dependencies.result.now) (c.in_ok-links.ensures ∙ c.in_ok-config_numbers.ensures)
          ∙ numbers_told c.args.doc.now c.numbers-numbers.result c.numbers-numbers.ensures.value c.loop-u.u c.dependencies.result.now
          c.dependencies.ensures.value v
          ∙ ap (λ n. depends_on c.args.doc.now n v) (sym e));
    }

pub returns : goal.returns
returns c = record {
  size = c.loop-u.invariant.size;
  pairs = λ v u. c.loop-u.invariant.pairs v u ∙ below_all c.args.doc.now c.loop-u.u u v (omega arith);
}
