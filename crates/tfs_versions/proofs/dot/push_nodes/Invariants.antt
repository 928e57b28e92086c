-- The lines so far were appended.
use Rattle.std.proofs.Common.{◌≡◌, ◌++◌, take}
use Rattle.std.specs.List.{flat_map}
use Rattle.tfs_versions.specs.Picture.{node_line}
use Rattle.tfs_versions.proofs.dot.push_nodes.Given as goal

abbrev pub invariant-loop-u : goal.invariant-loop-u
invariant-loop-u l = l.text.items ≡ l.initial.text.items ++ flat_map (node_line l.doc l.chosen) (take l.u-index l.among)
