-- Each step joins the next instance, and the last one closes the place.
use Rattle.std.proofs.Common.{arith}
use Rattle.tfs_plan.proofs.ChainLemmas.{element_at}
use Rattle.tfs_plan.proofs.SearchLemmas.{grows_trans, place_stays, next_joined, closed_next}
use Rattle.tfs_plan.proofs.chain.follow.Goals as goal

pub join-requires-clause-search : goal.join-requires-clause-search
join-requires-clause-search c = c.loop-u.invariant.grows.search c.args.place c.requires.search

pub join-requires-clause-place : goal.join-requires-clause-place
join-requires-clause-place c =
    place_stays c.args.found.now.steps.items c.loop-u.found.steps.items c.args.place c.loop-u.invariant.grows.longer c.requires.place

pub loop-u-preserved : goal.loop-u-preserved
loop-u-preserved c =
    let old = c.loop-u.found in
    let new = c.join.new.found in
    let told = c.in_ok-join.ensures in
    record {
      grows = grows_trans c.args.doc.now c.args.starts.now c.args.found.now old new c.loop-u.invariant.grows told.grows;
      joined = λ s at. next_joined c.args.doc.now old.steps.items new.steps.items c.loop-u.u s told.grows.longer
          (c.loop-u.invariant.joined s at) (told.joined s (c.loop-u.invariant.grows.longer c.args.place s at));
    }

pub returns-clause-search : goal.returns-clause-search
returns-clause-search c =
    let step = element_at c.args.found.now.steps.items c.args.place c.requires.place in
    let past = c.loop-u-test.false in
    let count = c.len-u-end.ensures.value in
    closed_next c.args.doc.now c.args.starts.now c.args.found.now c.loop-u.found c.args.place step.0 c.loop-u.invariant.grows
    c.requires.search step.1 (λ w low. c.loop-u.invariant.joined step.0 step.1 w (omega (arith, low, past, count)))
