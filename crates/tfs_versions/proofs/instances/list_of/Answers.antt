-- The elements of the list, whose numbers are valid.
use Rattle.std.proofs.Common.{◌≡◌, ◌∙◌, map, All, sym, ap, subst}
use Rattle.json.specs.Json.{array}
use Rattle.json.specs.Tree.{HasNumbers}
use Rattle.json.specs.Value.{value_view, items_view}
use Rattle.json.proofs.Trees.{view-Array}
use Rattle.tfs_versions.specs.Diff.{list_of}
use Rattle.tfs_versions.proofs.DiffLemmas.{elements-items_of, items_numbers}
use Rattle.tfs_versions.proofs.instances.list_of.Goals as goal

pub returns-in-Array-clause-value : goal.returns-in-Array-clause-value
returns-in-Array-clause-value c =
    let list = c.in-Array.list.items in
    let seen : value_view c.args.value.now ≡ array (items_view list) = ap value_view c.in-Array.is ∙ view-Array c.in-Array.list in
    ap (map value_view) c.as_slice.ensures.value ∙ sym (elements-items_of (map value_view list)) ∙ ap list_of (sym seen)

pub returns-in-Array-clause-numbers : goal.returns-in-Array-clause-numbers
returns-in-Array-clause-numbers c =
    let list = c.in-Array.list.items in
    let seen : value_view c.args.value.now ≡ array (items_view list) = ap value_view c.in-Array.is ∙ view-Array c.in-Array.list in
    subst (All (λ v. HasNumbers (value_view v))) (sym c.as_slice.ensures.value) (items_numbers list (subst HasNumbers seen c.requires))
