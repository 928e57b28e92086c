-- A number without an instance adds no row.
use Rattle.std.proofs.Common.{◌≤◌, ◌++◌, ap, sym, subst, ◌∙◌, map, append-nil}
use Rattle.std.specs.Option.{option_to_list}
use Rattle.serde_json.specs.View.{view}
use Rattle.tfs_web_answers.proofs.InstanceLemmas.{none_past}
use Rattle.tfs_web_answers.proofs.instances.push_row.Goals as goal

pub returns-else-number-len : goal.returns-else-number-len
returns-else-number-len c =
    let old = map view c.args.rows.now.items in
    let past = subst (λ n. n ≤ c.args.number) c.len.ensures.value c.if-number-len.false in
    sym (append-nil old) ∙ ap (λ row. old ++ option_to_list row) (sym (none_past c.args.doc.now c.args.numbers.now c.args.number past))
