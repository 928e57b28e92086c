-- The names that the instances so far read are added.
use Rattle.std.proofs.Common.{◌≡◌, ◌++◌, take, map}
use Rattle.std.specs.List.{flat_map}
use Rattle.std.specs.Option.{option_to_list}
use Rattle.tfs_json.specs.Tree.{tree_view}
use Rattle.tfs_across.specs.Reads.{name_read}
use Rattle.tfs_across.proofs.reading.push_instances.Given as goal

abbrev pub invariant-loop-instance : goal.invariant-loop-instance
invariant-loop-instance l = l.names.items
    ≡ l.initial.names.items ++ flat_map (λ instance. option_to_list (name_read instance)) (map tree_view (take l.instance-index l.instances))
