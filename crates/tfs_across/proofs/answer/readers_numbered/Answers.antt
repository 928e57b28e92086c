-- The rows of the plane list the readers, those of the closed plane also readers through others.
use Rattle.std.proofs.Common.{◌<◌, ◌∙◌, sym, subst}
use Rattle.std.specs.FinSet.{contains}
use Rattle.tfs_planes.specs.Walk.{Joins}
use Rattle.tfs_across.specs.Across.{Reads}
use Rattle.tfs_across.proofs.AcrossLemmas.{listed, direct_told, closed_told, reader_within, walk_within}
use Rattle.tfs_across.proofs.answer.readers_numbered.Goals as goal

pub returns-clause-direct : goal.returns-clause-direct
returns-clause-direct c =
    let ws = c.args.workspaces.now in
    let number = c.args.number in
    let plane = c.relate.new.plane in
    let has = c.in_ok-relate.ensures in
    listed (λ i. contains plane.pairs (number, i)) (λ i. Reads ws i number) plane.size c.in_ok-direct.direct.items
    c.in_ok-direct.ensures.rising c.in_ok-direct.ensures.members (direct_told ws plane has number)
    (λ u given. subst (λ n. u < n) (sym has.size) (reader_within ws u number given))

pub returns-clause-all : goal.returns-clause-all
returns-clause-all c =
    let ws = c.args.workspaces.now in
    let number = c.args.number in
    let plane = c.relate.new.plane in
    let closed = c.close.new.self in
    let has = c.in_ok-relate.ensures in
    let size = c.close.ensures.size ∙ has.size in
    listed (λ i. contains closed.pairs (number, i)) (λ i. Joins (Reads ws) i number) closed.size c.in_ok-all.all.items
    c.in_ok-all.ensures.rising c.in_ok-all.ensures.members (closed_told ws plane closed has c.close.ensures.walks number)
    (λ u walk. subst (λ n. u < n) (sym size) (walk_within ws u number walk))
