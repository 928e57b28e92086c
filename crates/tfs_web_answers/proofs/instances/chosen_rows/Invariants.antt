-- The rows of the numbers so far.
use Rattle.std.proofs.Common.{◌≡◌, map, take}
use Rattle.serde_json.specs.View.{view}
use Rattle.tfs_web_answers.specs.Instances.{rows_of}
use Rattle.tfs_web_answers.proofs.instances.chosen_rows.Given as goal

abbrev pub invariant-loop-number : goal.invariant-loop-number
invariant-loop-number l = map view l.rows.items ≡ rows_of l.doc l.numbers (take l.number-index l.chosen)
