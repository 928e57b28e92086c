-- Each step relates the workspaces that the next one reads to it.
use Rattle.std.proofs.Common.{◌∙◌, ◌&&◌, ◌||◌, Some, sym, ap, arith, eqb}
use Rattle.std.specs.FinSet.{contains, contains-empty}
use Rattle.std.proofs.lemmas.Bool.{le-ltb}
use Rattle.std.proofs.lemmas.Option.{slice_get-get_or}
use Rattle.tfs_index.proofs.IndexLemmas.{instance_step}
use Rattle.tfs_planes.specs.Relation.{pair_cmp}
use Rattle.tfs_across.specs.Reads.{names_read}
use Rattle.tfs_across.specs.Across.{is_named, reads}
use Rattle.tfs_across.proofs.AcrossLemmas.{reads_at, reads_all}
use Rattle.tfs_across.proofs.relating.relate.Goals as goal

pub loop-i-init : goal.loop-i-init
loop-i-init c = record {
  size = c.requires.size;
  pairs = λ v w. ap (λ s. contains s (v, w)) c.requires.empty ∙ contains-empty pair_cmp (v, w)
      ∙ sym (ap (λ b. b && reads c.args.workspaces.now w v) (le-ltb w 0 (omega arith)));
}

pub loop-i-preserved : goal.loop-i-preserved
loop-i-preserved c =
    let ws = c.args.workspaces.now in
    let i = c.loop-i.i in
    let names = c.as_slice.result.now in
    let at = slice_get-get_or ws i c.index-workspaces-i.result c.loop-i-test.true in
    record {
      size = c.relate_reader.ensures.size ∙ c.loop-i.invariant.size;
      pairs = λ v w. c.relate_reader.ensures.pairs v w
          ∙ ap (λ b. b || (eqb w i && is_named ws names v)) (c.loop-i.invariant.pairs v w)
          ∙ instance_step w i (reads ws w v) (is_named ws names v) (λ e.
          ap (λ xs. is_named ws xs v) (c.as_slice.ensures.value ∙ c.in_ok-names.ensures ∙ ap names_read c.doc.ensures.value)
          ∙ reads_at ws i v c.index-workspaces-i.result (at ∙ ap Some (sym c.index-workspaces-i.is))
          ∙ ap (λ n. reads ws n v) (sym e));
    }

pub returns : goal.returns
returns c = record {
  size = c.loop-i.invariant.size;
  pairs = λ v w. c.loop-i.invariant.pairs v w ∙ reads_all c.args.workspaces.now c.loop-i.i v w (let past = c.loop-i-test.false in let end = c.loop-i.auto.i-end in omega (arith, past, end));
}
