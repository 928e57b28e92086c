-- The routes as `matchit` stores them.
use Rattle.std.specs.Prelude.{[], ◌∷◌, ◌++◌, codes}
use Rattle.matchit.specs.Rows.{RowsOf, param_token}
use Rattle.matchit.specs.Router.{RouteOf}
use Rattle.tfs_calls.specs.declared.query.Kind.{Kind}
use Rattle.tfs_calls.specs.declared.query.Kind.TheVariants.{Any, All}
use Rattle.tfs_http.specs.Routing.{kind_part}
use Rattle.tfs_http.specs.declared.routes.Served.{Served}
use Rattle.tfs_http.specs.declared.routes.Served.TheVariants as served

-- The route of a state: the pattern and the text of `/state/{name}`, the place of its name, and
-- what it serves.
abbrev pub state_row : RouteOf Served
state_row = record { pattern = codes "/state/" ++ param_token ∷ []; text = codes "/state/{name}"; names = (8, 12) ∷ []; value = served.State }

-- The same for `/impact/{name}/any` and `/impact/{name}/all`.
abbrev pub impact_row : Kind → RouteOf Served
impact_row kind = record {
  pattern = codes "/impact/" ++ param_token ∷ kind_part kind;
  text = codes "/impact/{name}" ++ kind_part kind;
  names = (9, 13) ∷ [];
  value = served.Impact kind;
}

-- The rows of a router that has the routes.
abbrev pub route_rows : RowsOf (RouteOf Served)
route_rows = ((impact_row All).pattern, impact_row All)
    ∷ ((impact_row Any).pattern, impact_row Any)
    ∷ (state_row.pattern, state_row)
    ∷ []
