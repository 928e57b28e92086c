-- One more row.
use Rattle.std.proofs.Common.{◌+◌, ◌<◌, ◌∙◌, [], length, map, option_map, slice_get, take, arith, refl, subst, sym}
use Rattle.std.specs.Option.{option_to_list}
use Rattle.serde_json.specs.View.{view}
use Rattle.tfs_records.specs.Journal.{names_of}
use Rattle.tfs_web_answers.specs.Readers.{rights_of}
use Rattle.tfs_site.specs.Workspaces.{ShowAll}
use Rattle.tfs_site.proofs.WorkspacesLemmas.{show_more, show_none}
use Rattle.tfs_site.proofs.answers.readable_rows.Goals as goal

pub loop-number-init : goal.loop-number-init
loop-number-init c =
    let rights = rights_of c.args.reader.now in
    let j = c.args.present.now.newest.table.journal in record {
      rights = refl;
      rows = subst (λ rows. ShowAll rights j c.args.now [] (map view rows)) (sym c.in_ok-rows.ensures.items) (show_none rights j c.args.now);
    }

pub loop-number-preserved : goal.loop-number-preserved
loop-number-preserved c =
    let rights = rights_of c.args.reader.now in
    let j = c.args.present.now.newest.table.journal in
    let now = c.args.now in
    let names = names_of j in
    let number = c.loop-number.number in
    let end = c.names-number-end.ensures.value in
    let less : number < length names = omega arith in
    let so = c.loop-number.invariant in
    let own = option_to_list (option_map view c.in_ok-row.row) in
    let shown = subst (λ r. ShowAll r j now (option_to_list (slice_get names number)) own) so.rights c.in_ok-row.ensures.row in
    let more = show_more rights j now names number (map view c.loop-number.rows.items) own less so.rows shown in record {
      rights = c.in_ok-row.ensures.rights ∙ so.rights;
      rows = subst (λ rows. ShowAll rights j now (take (number + 1) names) rows) (sym c.in_ok-push_some.ensures) more;
    }
