-- The returned members are those that have worked.
use Rattle.std.proofs.Common.{rules, ◌≡◌, ◌<◌, ◌++◌, is_some, length, take, drop, slice_index_or, sym, ◌∙◌, ap, subst}
use Rattle.std.proofs.Math.Seq.{take-append_seam}
use Rattle.tfs_serve.specs.Working.{HasReplied, end_of_work, nothing_written}
use Rattle.tfs_serve.proofs.crew.run_members.Goals as goal

pub returns-clause-worked : goal.returns-clause-worked
returns-clause-worked g c i d inside =
    let told = g.G.Gate.told in
    let items = c.args.members.items in
    let new = c.work_until.new.members in
    let is = c.as_mut_slice.ensures.value in
    let long : c.args.members.len ≡ length new = search rules in
    let same : slice_index_or (take c.args.members.len (new ++ drop (length new) items)) i d ≡ slice_index_or new i d =
    ap (λ n. slice_index_or (take n (new ++ drop (length new) items)) i d) long
    ∙ ap (λ l. slice_index_or l i d) (take-append_seam new (drop (length new) items)) in
    subst (λ m. HasReplied g.H.Hold.durable g.J.Naming.opening (told (slice_index_or items i d).gate) (told m.gate) (slice_index_or items i d).session m.session
    (end_of_work (is_some m.fault)) nothing_written m.written.value) (sym same)
    (subst (λ l. HasReplied g.H.Hold.durable g.J.Naming.opening (told (slice_index_or l i d).gate) (told (slice_index_or new i d).gate) (slice_index_or l i d).session
    (slice_index_or new i d).session (end_of_work (is_some (slice_index_or new i d).fault)) nothing_written (slice_index_or new i d).written.value) is
    (c.work_until.ensures.worked i d (subst (λ l. i < length l) (sym is) inside)))
