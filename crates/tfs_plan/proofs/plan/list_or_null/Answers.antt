-- The elements of a list are the list.
use Rattle.std.proofs.Common.{◌≡◌, ◌∙◌, map, sym, ap, Some}
use Rattle.serde_json.specs.Data.{array}
use Rattle.serde_json.specs.View.{view, items_view}
use Rattle.serde_json.proofs.Views.{view-Array}
use Rattle.tfs_json.specs.Json.{list_given, given}
use Rattle.tfs_plan.proofs.PlanLemmas.{elements_of_list}
use Rattle.tfs_plan.proofs.plan.list_or_null.Goals as goal

pub returns-in-Array : goal.returns-in-Array
returns-in-Array c =
    let list = c.in-Array.list.items in
    let seen : view c.args.member.now ≡ array (items_view list) = ap view c.in-Array.is ∙ view-Array c.in-Array.list in
    ap (λ xs. Some (map view xs)) c.as_slice.ensures.value ∙ ap Some (sym (elements_of_list (map view list))) ∙ ap (λ d. list_given (given d)) (sym seen)
