-- The members so far are the pairs so far.
use Rattle.std.proofs.Common.{map, take}
use Rattle.std.specs.List.{AllZip}
use Rattle.tfs_json.specs.Tree.{tree_view}
use Rattle.tfs_etcd.specs.Pairs.{IsPair}
use Rattle.tfs_etcd.proofs.pairs.pairs.Given as goal

abbrev pub invariant-loop-member : goal.invariant-loop-member
invariant-loop-member l = AllZip IsPair (map tree_view (take l.member-index l.found)) l.pairs.items
