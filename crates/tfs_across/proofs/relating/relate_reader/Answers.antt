-- Each step relates the next workspace, if it has one of the names.
use Rattle.std.proofs.Common.{◌≡◌, ◌∙◌, ◌||◌, ◌&&◌, true, false, Some, ap, sym, arith, eqb}
use Rattle.std.specs.List.{list_any, slice_get}
use Rattle.std.specs.Str.{bytes_eq}
use Rattle.std.specs.FinSet.{contains, contains-insert}
use Rattle.std.proofs.lemmas.Option.{slice_get-get_or}
use Rattle.tfs_planes.specs.Relation.{Relation}
use Rattle.tfs_planes.proofs.RelationLemmas.{pair_cmp_total, same_pair}
use Rattle.tfs_across.specs.Across.{is_named}
use Rattle.tfs_across.proofs.AcrossLemmas.{named_at, named_step, named_all}
use Rattle.tfs_across.proofs.relating.relate_reader.Goals as goal
use Rattle.tfs_across.proofs.relating.relate_reader.Goals.{then-is_listed, else-is_listed}

pub loop-j-preserved : goal.loop-j-preserved
loop-j-preserved c =
    let ws = c.args.workspaces.now in
    let names = c.args.names.now in
    let first = c.args.plane.now in
    let old = c.loop-j.plane in
    let new = c.if-is_listed.plane in
    let j = c.loop-j.j in
    let i = c.args.i in
    let found : slice_get ws j ≡ Some c.index-workspaces-j.result =
    slice_get-get_or ws j c.index-workspaces-j.result c.loop-j-test.true ∙ ap Some (sym c.index-workspaces-j.is) in
    let told : c.is_listed.result ≡ is_named ws names j =
    c.is_listed.ensures ∙ ap (λ name. list_any (bytes_eq name) names) c.name.ensures.value
    ∙ sym (named_at ws names j c.index-workspaces-j.result found) in
    elim c.if-is_listed.branch [
      | then-is_listed b ↦
          let inserted = b.plane-is ∙ b.set.ensures.inserted in
          record {
            size = ap (λ (r : Relation). r.size) inserted ∙ c.loop-j.invariant.size;
            pairs = λ v w. named_step ws names first old new j i v w true (sym b.if-is_listed.true ∙ told)
                (ap (λ (r : Relation). contains r.pairs (v, w)) inserted
                ∙ contains-insert pair_cmp_total old.pairs (j, i) (v, w)
                ∙ ap (λ same. same || contains old.pairs (v, w)) (same_pair v w j i))
                (c.loop-j.invariant.pairs v w);
          }
      | else-is_listed b ↦
          record {
            size = ap (λ (r : Relation). r.size) b.plane-is ∙ c.loop-j.invariant.size;
            pairs = λ v w. named_step ws names first old new j i v w false (sym b.if-is_listed.false ∙ told)
                (ap (λ (r : Relation). contains r.pairs (v, w)) b.plane-is)
                (c.loop-j.invariant.pairs v w);
          }
    ]

pub returns-clause-pairs : goal.returns-clause-pairs
returns-clause-pairs c v w =
    c.loop-j.invariant.pairs v w
    ∙ ap (λ b. contains c.args.plane.now.pairs (v, w) || (eqb w c.args.i && b))
    (named_all c.args.workspaces.now c.args.names.now c.loop-j.j v (let past = c.loop-j-test.false in let end = c.loop-j.auto.j-end in omega (arith, past, end)))
