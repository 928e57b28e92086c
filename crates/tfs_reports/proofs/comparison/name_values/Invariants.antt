-- The names added so far.
use Rattle.std.proofs.Common.{◌≡◌, map, take}
use Rattle.serde_json.specs.Data.{string}
use Rattle.serde_json.specs.View.{view}
use Rattle.tfs_versions.specs.Diff.{DifferenceValue}
use Rattle.tfs_reports.proofs.comparison.name_values.Given as goal

abbrev pub invariant-loop-difference : goal.invariant-loop-difference
invariant-loop-difference l = map view l.names.items ≡ map (λ (d : DifferenceValue). string d.name) (take l.difference-index l.differences)
