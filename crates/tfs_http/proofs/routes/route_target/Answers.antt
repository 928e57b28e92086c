-- The target is UTF-8, and its path matches the route.
use Rattle.std.proofs.Common.{◌≡◌, ◌∙◌, List, ℕ, rules, ap, subst}
use Rattle.std.specs.Str.{IsUtf8}
use Rattle.tfs_http.specs.Routing.{IsPathOf, path_of, route_of}
use Rattle.tfs_http.proofs.EachPath.{is_listed}
use Rattle.tfs_http.proofs.routes.route_target.Goals as goal

pub returns-clause-found : goal.returns-clause-found
returns-clause-found c =
    let same : c.in-Ok.text.now ≡ c.args.target.now = search rules in
    let text : IsUtf8 c.args.target.now = search rules in
    let at : IsPathOf (route_of c.in_ok-served.served) (path_of c.args.target.now) c.in_ok-served.part.now =
    subst (λ (t : List ℕ). IsPathOf (route_of c.in_ok-served.served) t c.in_ok-served.part.now) (c.path_of.ensures ∙ ap path_of same)
    c.in_ok-served.ensures.found in
    (same, record { listed = is_listed c.in_ok-served.served; text = text; path = at })
