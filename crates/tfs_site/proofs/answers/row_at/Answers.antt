-- The row is that of the name with the number, if there is one.
use Rattle.std.proofs.Common.{[], option_map, subst}
use Rattle.std.specs.Option.{option_to_list}
use Rattle.std.proofs.lemmas.Result.{IfOk-weaker}
use Rattle.serde_json.specs.View.{view}
use Rattle.tfs_web_answers.specs.Readers.{rights_of}
use Rattle.tfs_site.specs.Workspaces.{ShowAll}
use Rattle.tfs_site.proofs.WorkspacesLemmas.{show_none, show_one}
use Rattle.tfs_site.proofs.answers.row_at.Goals as goal

pub returns-in-Some-clause-row : goal.returns-in-Some-clause-row
returns-in-Some-clause-row c =
    let rights = rights_of c.args.reader.now in
    let j = c.args.present.now.newest.table.journal in
    IfOk-weaker c.row_for.result _ _
    (λ row shows. subst (λ name. ShowAll rights j c.args.now (option_to_list name) (option_to_list (option_map view row))) c.in-Some.ensures.value
    (show_one rights j c.args.now _ _ shows))
    c.row_for.ensures.row

pub returns-in-None-clause-row : goal.returns-in-None-clause-row
returns-in-None-clause-row c =
    let rights = rights_of c.args.reader.now in
    let j = c.args.present.now.newest.table.journal in
    subst (λ name. ShowAll rights j c.args.now (option_to_list name) []) c.in-None.ensures.value (show_none rights j c.args.now)
