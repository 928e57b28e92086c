-- The row has the last change and the age of the lock.
use Rattle.std.proofs.Common.{ap, ◌∙◌}
use Rattle.std.proofs.lemmas.Result.{IfOk-weaker}
use Rattle.serde_json.specs.View.{view}
use Rattle.tfs_reports.specs.Rows.{IsListed, name_row}
use Rattle.tfs_reports.proofs.listing.workspace_row.Goals as goal

pub returns : goal.returns
returns c =
    let j = c.args.table.now.journal in
    let name = c.args.name.now in
    let times = c.in_ok-times.times in
    IfOk-weaker c.standing_row.result _
    (λ row. IsListed name j c.args.now (view row))
    (λ row is. record {
      changed = times.changed;
      last = c.in_ok-times.ensures.changed;
      is = is ∙ ap (name_row j name times.changed) c.in_ok-times.ensures.held;
    })
    c.standing_row.ensures
