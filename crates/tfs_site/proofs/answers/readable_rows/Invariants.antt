-- The rows of the names so far. The reader keeps its rights.
use Rattle.std.proofs.Common.{◌≡◌, map, take}
use Rattle.serde_json.specs.View.{view}
use Rattle.tfs_records.specs.Journal.{names_of}
use Rattle.tfs_web_answers.specs.Readers.{rights_of}
use Rattle.tfs_site.specs.Workspaces.{ShowAll}
use Rattle.tfs_site.proofs.answers.readable_rows.Given as goal

abbrev pub invariant-loop-number : goal.invariant-loop-number
invariant-loop-number l = record {
  rights : rights_of l.reader ≡ rights_of l.fn.reader;
  rows : ShowAll (rights_of l.fn.reader) l.present.newest.table.journal l.now (take l.number (names_of l.present.newest.table.journal)) (map view l.rows.items);
}
