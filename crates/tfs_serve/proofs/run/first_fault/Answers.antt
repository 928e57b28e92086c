-- The next worker has no fault, or has the first one.
use Rattle.std.proofs.Common.{refl, sym, ◌∙◌, ap, arith}
use Rattle.tfs_serve.proofs.Faults.{first_behind, first_here, first_at_end}
use Rattle.tfs_serve.proofs.run.first_fault.Goals as goal

pub loop-one-init : goal.loop-one-init
loop-one-init g c = refl

pub returns-in-Some : goal.returns-in-Some
returns-in-Some g c = record {
  first = sym (first_here (λ one. one.fault) c.args.served.now c.loop-one.one-index c.one-item.result c.in-Some.fault c.loop-one-test.true
      (sym (ap (λ one. one.fault) c.one-item.is) ∙ c.in-Some.is)) ∙ c.loop-one.invariant;
}

pub loop-one-preserved : goal.loop-one-preserved
loop-one-preserved g c =
    sym (first_behind (λ one. one.fault) c.args.served.now c.loop-one.one-index c.one-item.result c.loop-one-test.true
    (sym (ap (λ one. one.fault) c.one-item.is) ∙ c.in_default.is)) ∙ c.loop-one.invariant

pub returns : goal.returns
returns g c = record {
  first = sym (first_at_end (λ one. one.fault) c.args.served.now c.loop-one.one-index (omega (arith, c.loop-one-test.false))) ∙ c.loop-one.invariant;
}
