-- The values of the pairs so far and of the remaining pairs are all values.
use Rattle.std.proofs.Common.{◌≡◌, ◌++◌, map, string_bytes}
use Rattle.form_urlencoded.specs.Parse.{raw_pairs_left}
use Rattle.tfs_web.specs.Asked.{all_values}
use Rattle.tfs_web.proofs.asked.values_in.Given as goal

abbrev pub invariant-loop-name : goal.invariant-loop-name
invariant-loop-name l = record {
  next : (goal.iterator-loop-name).can_next l.name-iterator;
  finite : (goal.iterator-loop-name).is_finite l.name-iterator;
  same : all_values l.fn.called (raw_pairs_left l.fn.pairs) ≡ map string_bytes l.values.items ++ all_values l.fn.called (raw_pairs_left l.name-iterator);
}
