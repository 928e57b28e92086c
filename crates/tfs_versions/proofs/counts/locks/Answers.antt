-- The next name adds 1 if its lock is held.
use Rattle.std.proofs.Common.{◌<◌, length, arith}
use Rattle.tfs_records.specs.Journal.{names_of}
use Rattle.tfs_versions.specs.Counts.{lock_at}
use Rattle.tfs_versions.proofs.CountLemmas.{sum_next}
use Rattle.tfs_versions.proofs.counts.locks.Goals as goal

pub loop-number-preserved : goal.loop-number-preserved
loop-number-preserved g c =
    let end = c.names-number-end.ensures.value in
    let less : c.loop-number.number < length (names_of c.args.table.now.journal) = omega arith in
    let next = sum_next (lock_at c.args.table.now.journal) (names_of c.args.table.now.journal) c.loop-number.number less in
    let so = c.loop-number.invariant.told in
    let few = c.loop-number.invariant.most in
    let own = c.lock_numbered-count.ensures.value in
    let some = c.lock_numbered-count.ensures.most in
    record { told = omega arith; most = omega arith }
