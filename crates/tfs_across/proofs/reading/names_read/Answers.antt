-- The value of the document's text is the one that was read.
use Rattle.std.proofs.Common.{◌≡◌, ◌∙◌, [], IfOk, Option, ap, sym, subst}
use Rattle.std.specs.Option.{option_map_or}
use Rattle.json.specs.Json.{Json, document}
use Rattle.tfs_json.specs.Tree.{tree_data, tree_view}
use Rattle.tfs_across.specs.Reads.{names_of_state, names_read}
use Rattle.tfs_across.proofs.reading.names_read.Goals as goal

pub returns-in-Ok : goal.returns-in-Ok
unfolding names_read
returns-in-Ok c =
    let names_in = λ (o : Option Json). option_map_or (λ state. names_of_state (tree_data state)) o [] in
    let same : names_of_state (tree_view c.in-Ok.state) ≡ names_read c.args.doc.now =
    ap names_in (sym c.in-Ok.ensures.ok.1) ∙ ap (λ bytes. names_in (document bytes)) c.bytes.ensures.value in
    subst (λ l. IfOk c.names_of_state.result (λ names. names.items ≡ l)) same c.names_of_state.ensures
