-- The entry of an accepted change is in the journal, and its record in the sink.
use Rattle.std.proofs.Common.{rules}
use Rattle.tfs_table.specs.Table.{model_of}
use Rattle.tfs_conversation.proofs.DeskLemmas.{entered_by}
use Rattle.tfs_conversation.proofs.table_desk.change.Goals as goal

pub returns-in-Ok-apply : goal.returns-in-Ok-apply
returns-in-Ok-apply g c =
    let entered = entered_by (model_of c.args.table.now) (model_of c.apply.new.self) c.args.name c.in-Ok.draft c.in-Ok-apply.position
    c.in-Ok-apply.ensures.answered in
    record {
      answered = search rules;
      memory = λ lacks. absurd (cc lacks);
      leaves = record {
        entry = record { name = c.args.name; act = c.in-Ok.draft };
        journal = entered.0;
        stopped = entered.1;
        tells = search rules;
        told = search rules;
      };
    }
