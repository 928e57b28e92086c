-- The printed JSON has the changes.
use Rattle.std.proofs.Common.{◌∙◌, ap}
use Rattle.serde_json.specs.View.{view}
use Rattle.tfs_site.specs.Changes.{changes_of}
use Rattle.tfs_site.proofs.ChangesLemmas.{changes_printed}
use Rattle.tfs_site.proofs.changes.changes_text.Goals as goal

pub returns : goal.returns
returns c = changes_printed c.to_string.result (view c.in_ok-answer.answer) c.args.changes.now (c.in_ok-answer.ensures ∙ ap changes_of c.in_ok-rows.ensures)
    c.to_string.ensures.text
