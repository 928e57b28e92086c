-- The values of the pairs so far and of the remaining pairs are all values.
use Rattle.std.proofs.Common.{◌≡◌, ◌++◌}
use Rattle.form_urlencoded.specs.Parse.{raw_pairs_left}
use Rattle.tfs_http.specs.Query.{all_values}
use Rattle.tfs_http.proofs.query.all_values.Given as goal

abbrev pub invariant-loop-name : goal.invariant-loop-name
invariant-loop-name l = record {
  next : (goal.iterator-loop-name).can_next l.name-iterator;
  finite : (goal.iterator-loop-name).is_finite l.name-iterator;
  same : all_values l.fn.called (raw_pairs_left l.fn.pairs) ≡ l.values.items ++ all_values l.fn.called (raw_pairs_left l.name-iterator);
}
