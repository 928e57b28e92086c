-- The step at the end is that of a changed instance. Each instance that is changed or reached has a
-- step.
use Rattle.std.proofs.Common.{subst, arith}
use Rattle.std.specs.Prelude.{Option, ℕ}
use Rattle.tfs_plan.specs.Chains.{Follows}
use Rattle.tfs_plan.proofs.ChainLemmas.{path_ends, path_more}
use Rattle.tfs_plan.proofs.SearchLemmas.{led_has}
use Rattle.tfs_plan.proofs.chain.chain_back.Goals as goal

pub returns-in-None-clause-chain : goal.returns-in-None-clause-chain
returns-in-None-clause-chain c = λ some.
    let step = c.step_at-step.result in
    let follows = c.requires.chains.follows c.loop-chain.at step c.step_at-step.ensures in
    rw c.in_ok-push.ensures.items
    (path_ends c.args.doc.now c.args.starts.now c.args.u c.loop-chain.chain.items step.instance
    (c.loop-chain.invariant.path step c.step_at-step.ensures)
    (subst (λ (before : Option ℕ). Follows c.args.doc.now c.args.starts.now c.args.steps.now c.loop-chain.at step.instance before) c.in-None.is follows))

pub returns-in_default-clause-found : goal.returns-in_default-clause-found
returns-in_default-clause-found c = λ led.
    let has = led_has c.args.doc.now c.args.starts.now c.args.steps.now c.requires.whole c.args.u led in
    absurd (c.in_default.ensures.absent has.0 has.1 has.2 has.3)

pub loop-chain-preserved : goal.loop-chain-preserved
loop-chain-preserved c =
    let step = c.step_at-step.result in
    let follows = subst (λ (before : Option ℕ). Follows c.args.doc.now c.args.starts.now c.args.steps.now c.loop-chain.at step.instance before)
    c.in-Some-before.is (c.requires.chains.follows c.loop-chain.at step c.step_at-step.ensures) in
    record {
      within = (let low = follows.0 in let there = c.loop-chain.invariant.within in omega (arith, low, there));
      path = λ t at. rw c.in_ok-push.ensures.items
          (path_more c.args.doc.now c.args.u c.loop-chain.chain.items step.instance t.instance
          (c.loop-chain.invariant.path step c.step_at-step.ensures) (follows.1 t at));
    }
