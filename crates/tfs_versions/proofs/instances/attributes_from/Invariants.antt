-- The attributes of the members so far.
use Rattle.std.proofs.Common.{◌≡◌, take, map}
use Rattle.std.specs.List.{flat_map}
use Rattle.json.specs.Value.{value_view}
use Rattle.tfs_versions.specs.Diff.{attribute_of}
use Rattle.tfs_versions.proofs.instances.attributes_from.Given as goal

abbrev pub invariant-loop-member : goal.invariant-loop-member
invariant-loop-member l = l.attributes.items ≡ flat_map attribute_of (map (λ m. (m.0.now, value_view m.1)) (take l.member-index l.members))
