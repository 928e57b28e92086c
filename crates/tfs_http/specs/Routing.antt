-- Routing: the call of a request, or the reason why it has none.
use Rattle.std.specs.Prelude.{◌≡◌, ◌≢◌, ◌⊎◌, ◌==◌, ℕ, true, false, List, [], ◌∷◌, ◌++◌, codes, Contains, Result, Ok, Err}
use Rattle.std.specs.List.{before_first}
use Rattle.std.specs.Str.{IsUtf8}
use Rattle.tfs_rules.specs.Name.{IsName}
use Rattle.tfs_calls.specs.declared.call.Call.{Call}
use Rattle.tfs_calls.specs.declared.call.Call.TheVariants.{Read, Change, Impact}
use Rattle.tfs_calls.specs.declared.call.Raw.{Raw}
use Rattle.tfs_calls.specs.declared.call.Raw.TheVariants.{Lock, Unlock, Push, Delete}
use Rattle.tfs_calls.specs.declared.refusal.Methods.{Methods}
use Rattle.tfs_calls.specs.declared.refusal.Methods.TheVariants as methods
use Rattle.tfs_calls.specs.declared.query.Kind.{Kind}
use Rattle.tfs_calls.specs.declared.query.Kind.TheVariants.{Any, All}
use Rattle.tfs_calls.specs.declared.refusal.Refusal.{Refusal}
use Rattle.tfs_calls.specs.declared.refusal.Refusal.TheVariants.{NoRoute, MethodNotAllowed, BadName, BadDigest}
use Rattle.tfs_framing.specs.Request.{RequestValue}
use Rattle.tfs_http.specs.Query.{question_mark, identifier_parameter, texts_parameter}
use Rattle.tfs_http.specs.declared.routes.Served.{Served}
use Rattle.tfs_http.specs.declared.routes.Served.TheVariants as served

-- The byte `/`.
abbrev pub slash : ℕ
slash = 47

-- The path of a target: the text before its first question mark, or all of it (RFC 9112, section
-- 3.2.1).
abbrev pub path_of : List ℕ → List ℕ
path_of target = before_first (λ byte. byte == question_mark) target

-- A route: the text before and after the name in a path, and the accepted methods.
pub record Route : Type 0 where
  pub front : List ℕ
  pub back : List ℕ
  pub methods : Methods

-- The route of a state, `/state/{name}`.
abbrev pub state_path : Route
state_path = record { front = codes "/state/"; back = []; methods = methods.State }

-- The text after the name in the path of a query of this kind.
abbrev pub kind_part : Kind → List ℕ
kind_part Any = codes "/any"
kind_part All = codes "/all"

-- The route of impact queries of this kind: `/impact/{name}/any` or `/impact/{name}/all`.
abbrev pub impact_path : Kind → Route
impact_path kind = record { front = codes "/impact/"; back = kind_part kind; methods = methods.Impact }

-- All routes.
abbrev pub routes : List Route
routes = state_path ∷ impact_path Any ∷ impact_path All ∷ []

-- The methods of a route, in alphabetical order (RFC 9110, sections 9.1 and 9.3; Terraform, http
-- backend).
abbrev pub methods_of : Methods → List (List ℕ)
methods_of methods.State = codes "DELETE" ∷ codes "GET" ∷ codes "LOCK" ∷ codes "POST" ∷ codes "UNLOCK" ∷ []
methods_of methods.Impact = codes "GET" ∷ []

-- The text is one of these, byte for byte.
abbrev pub IsOneOf : List ℕ → List (List ℕ) → Type 0
IsOneOf text [] = ⊥
IsOneOf text (first ∷ others) = (text ≡ first) ⊎ IsOneOf text others

-- The path matches the route, with a part for the name that isn't empty and has no slash.
pub record IsPathOf (route : Route) (path part : List ℕ) : Type 0 where
  pub parts : path ≡ route.front ++ (part ++ route.back)
  pub filled : part ≢ []
  pub whole : ¬ (Contains part slash)

-- The target is UTF-8, and its path matches one of the routes.
pub record HasRoute (target : List ℕ) (route : Route) (part : List ℕ) : Type 0 where
  pub listed : Contains routes route
  pub text : IsUtf8 target
  pub path : IsPathOf route (path_of target) part

-- The target has a route that accepts the method.
pub record IsTaken (r : RequestValue) (route : Route) (part : List ℕ) : Type 0 where
  pub has_route : HasRoute r.target route part
  pub method : IsOneOf r.method (methods_of route.methods)

-- The target has a route that accepts the method, the part is a valid name, and the body has the
-- stated digest, if one is stated.
pub record IsSound (r : RequestValue) (route : Route) (name : List ℕ) : Type 0 where
  pub taken : IsTaken r route name
  pub is_name : IsName name
  pub intact : r.intact ≡ true

-- The request asks for the change: POST stores the body as the state, DELETE deletes the state,
-- LOCK takes the lock and UNLOCK releases it (Terraform, http backend). The identifier is the
-- parameter `ID`, even if it is empty.
abbrev pub HasChange : RequestValue → Raw → Type 0
HasChange r (Push id body) = (r.method ≡ codes "POST") × (id ≡ identifier_parameter r.target) × (body ≡ r.body)
HasChange r (Delete id) = (r.method ≡ codes "DELETE") × (id ≡ identifier_parameter r.target)
HasChange r (Lock body) = (r.method ≡ codes "LOCK") × (body ≡ r.body)
HasChange r (Unlock body id) = (r.method ≡ codes "UNLOCK") × (body ≡ r.body) × (id ≡ identifier_parameter r.target)

-- The request has the call: GET of a state reads it, the other methods change its workspace, and
-- GET of an impact makes a query with the parameters `of`, in order.
abbrev pub HasCall : RequestValue → Call → Type 0
HasCall r (Read name) = IsSound r state_path name × (r.method ≡ codes "GET")
HasCall r (Impact name query) = IsSound r (impact_path query.kind) name × (r.method ≡ codes "GET") × (query.texts ≡ texts_parameter r.target)
HasCall r (Change name raw) = IsSound r state_path name × HasChange r raw

-- The first refusal of a request: its target has no route, the route doesn't accept its method, the
-- part isn't a valid name, or the body doesn't have the stated digest.
abbrev pub routing_refusal : RequestValue → Refusal → Type 0
routing_refusal r NoRoute = (route : Route) (part : List ℕ) → ¬ (HasRoute r.target route part)
routing_refusal r (MethodNotAllowed methods) = (route : Route) × (part : List ℕ) × HasRoute r.target route part × (methods ≡ route.methods)
    × ¬ (IsOneOf r.method (methods_of route.methods))
routing_refusal r BadName = (route : Route) × (part : List ℕ) × IsTaken r route part × ¬ (IsName part)
routing_refusal r BadDigest = (route : Route) × (part : List ℕ) × IsTaken r route part × IsName part × (r.intact ≡ false)
routing_refusal r _ = ⊥

-- The outcome of routing a request, unless memory is refused.
abbrev pub RoutesTo : RequestValue → Result Call Refusal → Type 0
RoutesTo r (Ok call) = HasCall r call
RoutesTo r (Err refusal) = routing_refusal r refusal

-- The route that serves this.
abbrev pub route_of : Served → Route
route_of served.State = state_path
route_of (served.Impact kind) = impact_path kind
