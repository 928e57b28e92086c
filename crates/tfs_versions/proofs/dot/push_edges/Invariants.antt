-- The lines so far were appended.
use Rattle.std.proofs.Common.{◌≡◌, ◌++◌, take}
use Rattle.std.specs.List.{flat_map}
use Rattle.tfs_versions.specs.Picture.{edge_line}
use Rattle.tfs_versions.proofs.dot.push_edges.Given as goal

abbrev pub invariant-loop-pair : goal.invariant-loop-pair
invariant-loop-pair l = l.text.items ≡ l.initial.text.items ++ flat_map (edge_line l.doc) (take l.pair-index l.pairs)
