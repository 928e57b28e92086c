-- An instance is read from its own members and its dependencies.
use Rattle.std.proofs.Common.{refl}
use Rattle.tfs_json.specs.Tree.{tree_view as view}
use Rattle.tfs_state.proofs.TablesLemmas.{instance_read}
use Rattle.tfs_state.proofs.tables.read_instance.Goals as goal

pub returns-clause-ok : goal.returns-clause-ok
returns-clause-ok c = instance_read c.args.i c.args.j c.args.place (view c.args.value.now) c.args.names.now c.read_dependencies.new.names
    c.in-Some.instance (record { block = c.args.place; tail = c.in_ok-tail.tail; dependencies = c.in_ok-dependencies.dependencies })
    c.in-Some.ensures c.in_ok-dependencies.ensures.ok refl c.in_ok-tail.ensures.value
