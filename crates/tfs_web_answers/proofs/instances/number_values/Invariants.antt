-- The values of the numbers so far.
use Rattle.std.proofs.Common.{◌≡◌, ℕ, map, take}
use Rattle.serde_json.specs.View.{view}
use Rattle.tfs_web_answers.specs.Instances.{whole}
use Rattle.tfs_web_answers.proofs.instances.number_values.Given as goal

abbrev pub invariant-loop-number : goal.invariant-loop-number
invariant-loop-number l = map view l.values.items ≡ map whole (take l.number-index l.numbers)
