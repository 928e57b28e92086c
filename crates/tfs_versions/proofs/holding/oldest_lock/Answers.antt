-- The next name's time is compared with the earliest so far.
use Rattle.std.proofs.Common.{◌+◌, ◌<◌, Option, ℤ, length, take, arith, ap, sym, subst, ◌∙◌}
use Rattle.std.specs.List.{filter_map}
use Rattle.tfs_records.specs.Journal.{names_of}
use Rattle.tfs_versions.specs.Holding.{IsEarliest, earlier, taken_at}
use Rattle.tfs_versions.proofs.HoldingLemmas.{earliest_next}
use Rattle.tfs_versions.proofs.holding.oldest_lock.Goals as goal

pub loop-number-preserved : goal.loop-number-preserved
loop-number-preserved g c =
    let j = c.args.table.now.journal in
    let names = names_of j in
    let number = c.loop-number.number in
    let end = c.names-number-end.ensures.value in
    let less : number < length names = omega arith in
    let time = c.in_ok-time_numbered.ensures in
    subst (IsEarliest (filter_map (taken_at j) (take (number + 1) names)))
    (sym (c.earlier-oldest.ensures ∙ ap (λ (o : Option ℤ). earlier c.loop-number.oldest o) time))
    (earliest_next (taken_at j) names number c.loop-number.oldest less c.loop-number.invariant)
