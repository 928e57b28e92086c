-- The first pair with the name gives the value.
use Rattle.std.proofs.Common.{Some, ap, sym, ◌∙◌}
use Rattle.tfs_http.proofs.QueryLemmas.{other_pair, found_pair, no_pair}
use Rattle.tfs_http.proofs.query.first_value.Goals as goal

pub returns-then-branch : goal.returns-then-branch
returns-then-branch c =
    ap Some c.in_ok-decode_value.ensures
    ∙ sym (c.loop-name.invariant.same
    ∙ found_pair c.args.called.now _ _ (c.in-Some.name.now, c.in-Some.value.now) c.in-Some.ensures.steps
    (sym c.in_ok-is_called.ensures ∙ c.if-branch.true))

pub loop-name-preserved : goal.loop-name-preserved
loop-name-preserved c = record {
  next = tt;
  finite = tt;
  same = c.loop-name.invariant.same
      ∙ other_pair c.args.called.now _ _ (c.in-Some.name.now, c.in-Some.value.now) c.in-Some.ensures.steps
      (sym c.in_ok-is_called.ensures ∙ c.if-branch.false);
}

pub returns : goal.returns
returns c = sym (c.loop-name.invariant.same ∙ no_pair c.args.called.now _ c.in-None.ensures.steps.0)
