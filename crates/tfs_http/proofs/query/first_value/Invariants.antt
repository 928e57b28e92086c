-- No pair so far has the name.
use Rattle.std.proofs.Common.{◌≡◌}
use Rattle.form_urlencoded.specs.Parse.{raw_pairs_left}
use Rattle.tfs_http.specs.Query.{first_value}
use Rattle.tfs_http.proofs.query.first_value.Given as goal

abbrev pub invariant-loop-name : goal.invariant-loop-name
invariant-loop-name l = record {
  next : (goal.iterator-loop-name).can_next l.name-iterator;
  finite : (goal.iterator-loop-name).is_finite l.name-iterator;
  same : first_value l.fn.called (raw_pairs_left l.fn.pairs) ≡ first_value l.fn.called (raw_pairs_left l.name-iterator);
}
