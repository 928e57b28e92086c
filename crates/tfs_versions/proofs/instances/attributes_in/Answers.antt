-- The attributes of the members, whose numbers are valid.
use Rattle.std.proofs.Common.{◌≡◌, ◌∙◌, map, All, IfOk, sym, ap, subst}
use Rattle.std.specs.List.{flat_map}
use Rattle.json.specs.Json.{object}
use Rattle.json.specs.Tree.{HasNumbers}
use Rattle.json.specs.Value.{value_view, members_view}
use Rattle.json.proofs.Trees.{view-Object}
use Rattle.tfs_versions.specs.Diff.{attribute_of, attributes_in}
use Rattle.tfs_versions.proofs.DiffLemmas.{named-members_view, members_numbers}
use Rattle.tfs_versions.proofs.instances.attributes_in.Goals as goal

pub attributes_from-requires : goal.attributes_from-requires
attributes_from-requires c =
    let members = c.in-Object.members.items in
    let seen : value_view c.args.value.now ≡ object (members_view members) = ap value_view c.in-Object.is ∙ view-Object c.in-Object.members in
    subst (All (λ m. HasNumbers (value_view m.1))) (sym c.deref.ensures.value) (members_numbers members (subst HasNumbers seen c.requires))

pub returns-in-Object : goal.returns-in-Object
returns-in-Object c =
    let members = c.in-Object.members.items in
    let seen : value_view c.args.value.now ≡ object (members_view members) = ap value_view c.in-Object.is ∙ view-Object c.in-Object.members in
    let same : flat_map attribute_of (map (λ m. (m.0.now, value_view m.1)) c.deref.result.now) ≡ attributes_in (value_view c.args.value.now) =
    ap (λ l. flat_map attribute_of (map (λ m. (m.0.now, value_view m.1)) l)) c.deref.ensures.value
    ∙ ap (flat_map attribute_of) (sym (named-members_view members))
    ∙ ap attributes_in (sym seen) in
    subst (λ l. IfOk c.attributes_from.result (λ attributes. attributes.items ≡ l)) same c.attributes_from.ensures
