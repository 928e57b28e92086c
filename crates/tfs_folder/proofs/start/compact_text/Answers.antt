-- The text of the compacted journal is that of the journal before, compacted.
use Rattle.tfs_folder.proofs.BesideLemmas.{compacts_to}
use Rattle.tfs_folder.proofs.start.compact_text.Goals as goal

pub returns-in_ok-text_of-in-Ok : goal.returns-in_ok-text_of-in-Ok
returns-in_ok-text_of-in-Ok c = record {
  text = λ bytes opens.
      compacts_to bytes c.in_ok-text_of-in-Ok.field-0.items c.args.table.now.journal c.in-Ok.next.journal opens c.in-Ok.ensures.journal
      c.in_ok-text_of-in-Ok.ensures.kept c.in_ok-text_of-in-Ok.ensures.text;
}
