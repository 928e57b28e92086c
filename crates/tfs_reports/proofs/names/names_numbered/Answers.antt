-- One more name.
use Rattle.std.proofs.Common.{◌<◌, length, arith}
use Rattle.tfs_records.specs.Journal.{names_of}
use Rattle.tfs_reports.specs.Names.{is_listed}
use Rattle.tfs_reports.proofs.NamesLemmas.{listed_more}
use Rattle.tfs_reports.proofs.names.names_numbered.Goals as goal

pub loop-number-preserved : goal.loop-number-preserved
loop-number-preserved g c =
    let j = c.args.table.now.journal in
    let end = c.names-number-end.ensures.value in
    let less : c.loop-number.number < length (names_of j) = omega arith in
    let own = c.in_ok-push_name.ensures in
    let so = c.loop-number.invariant in
    let next = listed_more (is_listed j c.args.is_held_only) (names_of j) c.loop-number.number less in
    cc
