-- The printed JSON is the list.
use Rattle.std.proofs.Common.{◌∙◌, ap, map}
use Rattle.serde_json.specs.View.{view}
use Rattle.tfs_web_answers.specs.Readers.{rights_of}
use Rattle.tfs_site.specs.Workspaces.{list_of}
use Rattle.tfs_site.proofs.WorkspacesLemmas.{list_printed}
use Rattle.tfs_site.proofs.answers.workspaces_text.Goals as goal

pub returns : goal.returns
returns c =
    let rows = map view c.in_ok-rows.rows.items in
    list_printed c.to_string.result (view c.in_ok-list.list) (rights_of c.args.reader.now) c.args.present.now.newest.table.journal c.args.now rows
    c.in_ok-rows.ensures (c.in_ok-list.ensures ∙ ap (list_of rows) c.position.ensures.value) c.to_string.ensures.text
