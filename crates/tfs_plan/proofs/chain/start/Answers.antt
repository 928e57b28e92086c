-- Each step starts the next changed instance.
use Rattle.std.proofs.Common.{arith}
use Rattle.tfs_plan.proofs.SearchLemmas.{grows_trans, next_started}
use Rattle.tfs_plan.proofs.chain.start.Goals as goal

pub loop-i-preserved : goal.loop-i-preserved
loop-i-preserved c =
    let old = c.loop-i.found in
    let new = c.begin.new.found in
    let told = c.in_ok-begin.ensures in
    record {
      grows = grows_trans c.args.doc.now c.args.starts.now c.args.found.now old new c.loop-i.invariant.grows told.grows;
      started = λ below is. next_started c.args.doc.now c.args.starts.now old.steps.items new.steps.items c.args.from c.loop-i.i told.grows.longer
          (c.loop-i.invariant.started below is) (told.started below (c.loop-i.invariant.grows.search below is));
    }

pub returns-clause-started : goal.returns-clause-started
returns-clause-started c = λ below is i from low.
    let past = c.loop-i-test.false in
    c.loop-i.invariant.started below is i from (omega (arith, low, past))
