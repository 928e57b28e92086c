-- A resource adds its block and its rows, or nothing if it has no instances.
use Rattle.std.proofs.Common.{refl, arith}
use Rattle.tfs_json.specs.Tree.{tree_view as view}
use Rattle.tfs_state.specs.Parts.{resource_view}
use Rattle.tfs_state.proofs.TablesLemmas.{no_values, resource_with_instances, resource_without_instances}
use Rattle.tfs_state.proofs.tables.Tables.read_resource.Goals as goal

pub returns-then-is_empty-clause-ok : goal.returns-then-is_empty-clause-ok
returns-then-is_empty-clause-ok c = resource_without_instances c.args.i (view c.args.value.now) (resource_view c.in-Some.resource)
    c.args.self.now (record c.args.self.now { names = c.read_block.new.names })
    c.in_ok-block.block c.in-Some.ensures c.in_ok-block.ensures.ok (no_values view c.in-Some.resource.instances.now c.if-is_empty.ensures) refl refl

pub returns-clause-ok : goal.returns-clause-ok
returns-clause-ok c = resource_with_instances c.args.i c.len-place.result (view c.args.value.now) (resource_view c.in-Some.resource)
    c.args.self.now (record c.args.self.now { names = c.read_block.new.names }) c.read_instances.new.self
    (record c.read_instances.new.self { blocks = c.keep.new.list }) c.in_ok-block.block
    c.in-Some.ensures c.in_ok-block.ensures.ok refl refl c.in_ok-read_instances.ensures.ok (omega arith) refl refl c.in_ok-keep.ensures
