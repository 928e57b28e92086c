-- Every request has exactly one call or one refusal.
use Rattle.std.proofs.Common.{◌≡◌, ◌≢◌, ◌⊎◌, ◌∙◌, ℕ, List, [], ◌∷◌, length, get_or, nat_le, Bool, true, false}
use Rattle.std.proofs.Common.{Result, Ok, Err}
use Rattle.std.proofs.Common.{codes, refl, sym, ap, subst, inl, inr, arith}
use Rattle.std.specs.List.{list_all}
use Rattle.std.specs.Str.{is_utf8}
use Rattle.std.proofs.lemmas.Bool.{leb-true, leb-false}
use Rattle.std.proofs.lemmas.Str.{IsUtf8-from_is_utf8, is_utf8-from_IsUtf8}
use Rattle.tfs_rules.specs.Name.{IsName, is_name_byte}
use Rattle.tfs_calls.specs.declared.call.Call.{Call}
use Rattle.tfs_calls.specs.declared.call.Call.TheVariants.{Read, Change, Impact}
use Rattle.tfs_calls.specs.declared.call.Raw.{Raw}
use Rattle.tfs_calls.specs.declared.call.Raw.TheVariants.{Lock, Unlock, Push, Delete}
use Rattle.tfs_calls.specs.declared.query.Kind.{Kind}
use Rattle.tfs_calls.specs.declared.query.Query.{Query}
use Rattle.tfs_calls.specs.declared.refusal.Methods.TheVariants as methods
use Rattle.tfs_calls.specs.declared.refusal.Refusal.{Refusal}
use Rattle.tfs_calls.specs.declared.refusal.Refusal.TheVariants.{NoRoute, MethodNotAllowed, BadName, BadDigest}
use Rattle.tfs_http.specs.declared.routes.Served.{Served}
use Rattle.tfs_http.specs.declared.routes.Served.TheVariants as served
use Rattle.tfs_framing.specs.Request.{RequestValue}
use Rattle.tfs_http.specs.Query.{identifier_parameter, texts_parameter}
use Rattle.tfs_http.specs.Routing.{path_of, Route, IsPathOf, IsOneOf, HasRoute, IsTaken, IsSound, HasChange, HasCall, routing_refusal}
use Rattle.tfs_http.specs.Routing.{RoutesTo, methods_of, state_path, impact_path, route_of}
use Rattle.tfs_http.proofs.EachPath.{text_decided, path_decided, path_once, is_listed, served_by}

-- It is decidable whether a text is a valid name.
name_decided : (text : List ℕ) → IsName text ⊎ ¬ (IsName text)
name_decided text = by (nat_le 1 (length text)) refl (nat_le (length text) 64) refl (list_all is_name_byte text) refl
  where
    by : (u : Bool) → nat_le 1 (length text) ≡ u → (v : Bool) → nat_le (length text) 64 ≡ v → (w : Bool) → list_all is_name_byte text ≡ w → IsName text
        ⊎ ¬ (IsName text)
    by false a v b w c = inr (λ n. let short = leb-false 1 (length text) a in let filled = n.filled in omega (arith, short, filled))
    by true a false b w c = inr (λ n. let long = leb-false (length text) 64 b in let short = n.short in omega (arith, long, short))
    by true a true b false c = inr (λ n. cc (n.clean, c))
    by true a true b true c = inl (record { filled = leb-true 1 (length text) a; short = leb-true (length text) 64 b; clean = c })

-- It is decidable whether a text is in a list.
one_decided : (text : List ℕ) (items : List (List ℕ)) → IsOneOf text items ⊎ ¬ (IsOneOf text items)
one_decided text [] = inr (λ is. is)
one_decided text (first ∷ items) = elim (text_decided text first) [
  | inl is ↦ inl (inl is)
  | inr other ↦ elim (one_decided text items) [
    | inl later ↦ inl (inr later)
    | inr none ↦ inr (λ is. elim is [ inl a ↦ other a | inr b ↦ none b ])
  ]
]

-- A sound request for a state, with one of its methods, has a call.
method_called : (r : RequestValue) (name : List ℕ) → IsSound r state_path name → IsOneOf r.method (methods_of methods.State)
    → (call : Call) × HasCall r call
method_called r name is (inl delete) = (Change name (Delete (identifier_parameter r.target)), (is, (delete, refl)))
method_called r name is (inr (inl get)) = (Read name, (is, get))
method_called r name is (inr (inr (inl lock))) = (Change name (Lock r.body), (is, (lock, refl)))
method_called r name is (inr (inr (inr (inl post)))) = (
  Change name (Push (identifier_parameter r.target) r.body),
  (is, (post, refl, refl)),
)
method_called r name is (inr (inr (inr (inr (inl unlock))))) = (
  Change name (Unlock r.body (identifier_parameter r.target)),
  (is, (unlock, refl, refl)),
)
method_called r name is (inr (inr (inr (inr (inr none))))) = absurd none

-- A sound request for an impact, with its method, has a call.
impact_called : (r : RequestValue) (kind : Kind) (name : List ℕ) → IsSound r (impact_path kind) name → IsOneOf r.method (methods_of methods.Impact)
    → (call : Call) × HasCall r call
impact_called r kind name is (inl get) = (Impact name (record { kind = kind; texts = texts_parameter r.target }), (is, get, refl))
impact_called r kind name is (inr none) = absurd none

-- A sound request for anything served, with one of its methods, has a call.
served_called : (r : RequestValue) (served : Served) (name : List ℕ) → IsSound r (route_of served) name
    → IsOneOf r.method (methods_of (route_of served).methods) → (call : Call) × HasCall r call
served_called r served.State name is method = method_called r name is method
served_called r (served.Impact kind) name is method = impact_called r kind name is method

-- The request has a call or a refusal.
abbrev IsRouted : RequestValue → Type 0
IsRouted r = (x : Result Call Refusal) × RoutesTo r x

-- A request whose target has a route has a call or a refusal.
route_routed : (r : RequestValue) (served : Served) (part : List ℕ) → HasRoute r.target (route_of served) part → IsRouted r
route_routed r served part has = elim (one_decided r.method (methods_of (route_of served).methods)) [
  | inl method ↦ elim (name_decided part) [
    | inl is ↦ by (record { has_route = has; method = method }) is r.intact refl
    | inr not ↦ (Err BadName, (route_of served, part, record { has_route = has; method = method }, not))
  ]
  | inr none ↦ (Err (MethodNotAllowed (route_of served).methods), (route_of served, part, has, refl, none))
]
  where
    by : IsTaken r (route_of served) part → IsName part → (v : Bool) → r.intact ≡ v → IsRouted r
    by taken is true e =
        let called = served_called r served part (record { taken = taken; is_name = is; intact = e }) taken.method in (Ok called.0, called.1)
    by taken is false e = (Err BadDigest, (route_of served, part, taken, is, e))

-- Every request has a call or a refusal.
pub each_routed : (r : RequestValue) → IsRouted r
each_routed r = by (is_utf8 r.target) refl
  where
    by : (v : Bool) → is_utf8 r.target ≡ v → IsRouted r
    by true e =
        let text = IsUtf8-from_is_utf8 r.target e in
        elim (path_decided (path_of r.target)) [
          | inl p ↦ route_routed r p.0 p.1 (record { listed = is_listed p.0; text = text; path = p.2 })
          | inr none ↦ (Err NoRoute, λ route part n. none route part n.listed n.path)
        ]
    by false e = (Err NoRoute, λ route part n. cc (e, is_utf8-from_IsUtf8 r.target n.text))

-- A target has at most one route, and one part for the name.
part_once : (target : List ℕ) (route other : Route) (part last : List ℕ) → HasRoute target route part → HasRoute target other last
    → (route ≡ other) × (part ≡ last)
part_once target route other part last p q =
    let one = served_by route p.listed in
    let two = served_by other q.listed in
    let once = path_once (path_of target) one.0 two.0 part last (subst (λ t. IsPathOf t (path_of target) part) one.1 p.path)
    (subst (λ t. IsPathOf t (path_of target) last) two.1 q.path) in
    (one.1 ∙ ap route_of once.0 ∙ sym two.1, once.1)

-- A target is for at most one thing served, with one part for the name.
served_once : (target : List ℕ) (served other : Served) (part last : List ℕ) → HasRoute target (route_of served) part → HasRoute target (route_of other) last
    → (served ≡ other) × (part ≡ last)
served_once target served other part last p q = path_once (path_of target) served other part last p.path q.path

-- The first letter of a change's method.
abbrev letter_of : Raw → ℕ
letter_of (Push id body) = 80
letter_of (Delete id) = 68
letter_of (Lock body) = 76
letter_of (Unlock body id) = 85

-- The method of a request for a change begins with the letter of the change.
letter_is : (r : RequestValue) (raw : Raw) → HasChange r raw → get_or r.method 0 0 ≡ letter_of raw
letter_is r (Push id body) p = ap (λ t. get_or t 0 0) p.0
letter_is r (Delete id) p = ap (λ t. get_or t 0 0) p.0
letter_is r (Lock body) p = ap (λ t. get_or t 0 0) p.0
letter_is r (Unlock body id) p = ap (λ t. get_or t 0 0) p.0

-- A request asks for at most one change.
change_once : (r : RequestValue) (raw other : Raw) → HasChange r raw → HasChange r other → raw ≡ other
change_once r raw other p q = by raw other p q (sym (letter_is r raw p) ∙ letter_is r other q)
  where
    by : (raw other : Raw) → HasChange r raw → HasChange r other → letter_of raw ≡ letter_of other → raw ≡ other
    by (Push id body) (Push also last) p q e = ap (λ t. Push t body) (p.1 ∙ sym q.1) ∙ ap (λ t. Push also t) (p.2 ∙ sym q.2)
    by (Push id body) (Delete also) p q e = absurd (omega arith)
    by (Push id body) (Lock last) p q e = absurd (omega arith)
    by (Push id body) (Unlock last also) p q e = absurd (omega arith)
    by (Delete id) (Push also last) p q e = absurd (omega arith)
    by (Delete id) (Delete also) p q e = ap Delete (p.1 ∙ sym q.1)
    by (Delete id) (Lock last) p q e = absurd (omega arith)
    by (Delete id) (Unlock last also) p q e = absurd (omega arith)
    by (Lock body) (Push also last) p q e = absurd (omega arith)
    by (Lock body) (Delete also) p q e = absurd (omega arith)
    by (Lock body) (Lock last) p q e = ap Lock (p.1 ∙ sym q.1)
    by (Lock body) (Unlock last also) p q e = absurd (omega arith)
    by (Unlock body id) (Push also last) p q e = absurd (omega arith)
    by (Unlock body id) (Delete also) p q e = absurd (omega arith)
    by (Unlock body id) (Lock last) p q e = absurd (omega arith)
    by (Unlock body id) (Unlock last also) p q e = ap (λ t. Unlock t id) (p.1 ∙ sym q.1) ∙ ap (λ t. Unlock last t) (p.2 ∙ sym q.2)

-- A GET request asks for no change.
get_changes_nothing : (r : RequestValue) (raw : Raw) → r.method ≡ codes "GET" → ¬ (HasChange r raw)
get_changes_nothing r raw get p = by raw (sym (letter_is r raw p) ∙ ap (λ t. get_or t 0 0) get)
  where
    by : (raw : Raw) → ¬ (letter_of raw ≡ 71)
    by (Push id body) e = omega arith
    by (Delete id) e = omega arith
    by (Lock body) e = omega arith
    by (Unlock body id) e = omega arith

-- A state isn't an impact.
no_impact : (kind : Kind) → served.State ≢ served.Impact kind
no_impact kind e = cc

-- A request has at most one query.
impact_once : (r : RequestValue) (a b : List ℕ) (query other : Query) → HasCall r (Impact a query) → HasCall r (Impact b other)
    → Impact a query ≡ Impact b other
impact_once r a b query other p q =
    let once = served_once r.target (served.Impact query.kind) (served.Impact other.kind) a b p.0.taken.has_route q.0.taken.has_route in
    let same = once.0 in
    let kinds : query.kind ≡ other.kind = cc same in
    let texts : query.texts ≡ other.texts = p.2 ∙ sym q.2 in
    ap (λ t. Impact t query) once.1
    ∙ ap (λ k. Impact b (record { kind = k; texts = query.texts })) kinds
    ∙ ap (λ t. Impact b (record { kind = other.kind; texts = t })) texts

-- A request has at most one call.
call_once : (r : RequestValue) (call other : Call) → HasCall r call → HasCall r other → call ≡ other
call_once r (Impact a query) (Impact b other) p q = impact_once r a b query other p q
call_once r (Impact a query) (Read b) p q =
    absurd (no_impact query.kind (sym (served_once r.target (served.Impact query.kind) served.State a b p.0.taken.has_route q.0.taken.has_route).0))
call_once r (Impact a query) (Change b raw) p q =
    absurd (no_impact query.kind (sym (served_once r.target (served.Impact query.kind) served.State a b p.0.taken.has_route q.0.taken.has_route).0))
call_once r (Read a) (Impact b query) p q =
    absurd (no_impact query.kind (served_once r.target served.State (served.Impact query.kind) a b p.0.taken.has_route q.0.taken.has_route).0)
call_once r (Change a raw) (Impact b query) p q =
    absurd (no_impact query.kind (served_once r.target served.State (served.Impact query.kind) a b p.0.taken.has_route q.0.taken.has_route).0)
call_once r (Read a) (Read b) p q = ap Read (part_once r.target state_path state_path a b p.0.taken.has_route q.0.taken.has_route).1
call_once r (Read a) (Change b raw) p q = absurd (get_changes_nothing r raw p.1 q.1)
call_once r (Change a raw) (Read b) p q = absurd (get_changes_nothing r raw q.1 p.1)
call_once r (Change a raw) (Change b other) p q =
    ap (λ t. Change t raw) (part_once r.target state_path state_path a b p.0.taken.has_route q.0.taken.has_route).1
    ∙ ap (λ t. Change b t) (change_once r raw other p.1 q.1)

-- The four reasons for refusing a request: no route, another method, an invalid name, or a body
-- without the stated digest.
abbrev Reasons : RequestValue → Refusal → Type 0
Reasons r refusal = (((route : Route) (part : List ℕ) → ¬ (HasRoute r.target route part)) × (refusal ≡ NoRoute))
    ⊎ (((route : Route) × (part : List ℕ) × HasRoute r.target route part × ¬ (IsOneOf r.method (methods_of route.methods))
    × (refusal ≡ MethodNotAllowed route.methods))
    ⊎ (((route : Route) × (part : List ℕ) × IsTaken r route part × ¬ (IsName part) × (refusal ≡ BadName))
    ⊎ ((route : Route) × (part : List ℕ) × IsTaken r route part × IsName part × (r.intact ≡ false) × (refusal ≡ BadDigest))))

-- A refused request has one of these reasons.
reasons : (r : RequestValue) (refusal : Refusal) → routing_refusal r refusal → Reasons r refusal
reasons r NoRoute p = inl (p, refl)
reasons r (MethodNotAllowed methods) p = inr (inl (p.0, p.1, p.2, p.4, ap MethodNotAllowed p.3))
reasons r BadName p = inr (inr (inl (p.0, p.1, p.2, p.3, refl)))
reasons r BadDigest p = inr (inr (inr (p.0, p.1, p.2, p.3, p.4, refl)))
reasons r _ p = absurd p

-- If a route accepts a request, any other route of its target accepts it with the same part.
taken_as : (r : RequestValue) (route other : Route) (part last : List ℕ) → IsTaken r route part → HasRoute r.target other last
    → IsOneOf r.method (methods_of other.methods) × (part ≡ last)
taken_as r route other part last t has =
    let same = part_once r.target route other part last t.has_route has in
    (subst (λ (x : Route). IsOneOf r.method (methods_of x.methods)) same.0 t.method, same.1)

-- A sound request isn't refused.
sound_not_refused : (r : RequestValue) (route : Route) (name : List ℕ) (refusal : Refusal) → IsSound r route name → ¬ (Reasons r refusal)
sound_not_refused r route name refusal s (inl p) = p.0 route name s.taken.has_route
sound_not_refused r route name refusal s (inr (inl p)) = p.3 (taken_as r route p.0 name p.1 s.taken p.2).0
sound_not_refused r route name refusal s (inr (inr (inl p))) =
    p.3 (subst IsName (taken_as r route p.0 name p.1 s.taken p.2.has_route).1 s.is_name)
sound_not_refused r route name refusal s (inr (inr (inr p))) = let wrong : true ≡ false = sym s.intact ∙ p.4 in cc

-- A request that has a call isn't refused.
called_not_refused : (r : RequestValue) (call : Call) (refusal : Refusal) → HasCall r call → ¬ (routing_refusal r refusal)
called_not_refused r (Read name) refusal p q = sound_not_refused r state_path name refusal p.0 (reasons r refusal q)
called_not_refused r (Impact name query) refusal p q = sound_not_refused r (impact_path query.kind) name refusal p.0 (reasons r refusal q)
called_not_refused r (Change name raw) refusal p q = sound_not_refused r state_path name refusal p.0 (reasons r refusal q)

-- A request has at most one refusal.
refused_once : (r : RequestValue) (f g : Refusal) → routing_refusal r f → routing_refusal r g → f ≡ g
refused_once r f g p q = by (reasons r f p) (reasons r g q)
  where
    by : Reasons r f → Reasons r g → f ≡ g
    by (inl a) (inl b) = a.1 ∙ sym b.1
    by (inl a) (inr (inl b)) = absurd (a.0 b.0 b.1 b.2)
    by (inl a) (inr (inr (inl b))) = absurd (a.0 b.0 b.1 b.2.has_route)
    by (inl a) (inr (inr (inr b))) = absurd (a.0 b.0 b.1 b.2.has_route)
    by (inr (inl a)) (inl b) = absurd (b.0 a.0 a.1 a.2)
    by (inr (inl a)) (inr (inl b)) =
        a.4 ∙ ap (λ (x : Route). MethodNotAllowed x.methods) (part_once r.target a.0 b.0 a.1 b.1 a.2 b.2).0 ∙ sym b.4
    by (inr (inl a)) (inr (inr (inl b))) = absurd (a.3 (taken_as r b.0 a.0 b.1 a.1 b.2 a.2).0)
    by (inr (inl a)) (inr (inr (inr b))) = absurd (a.3 (taken_as r b.0 a.0 b.1 a.1 b.2 a.2).0)
    by (inr (inr (inl a))) (inl b) = absurd (b.0 a.0 a.1 a.2.has_route)
    by (inr (inr (inl a))) (inr (inl b)) = absurd (b.3 (taken_as r a.0 b.0 a.1 b.1 a.2 b.2).0)
    by (inr (inr (inl a))) (inr (inr (inl b))) = a.4 ∙ sym b.4
    by (inr (inr (inl a))) (inr (inr (inr b))) = absurd (a.3 (subst IsName (taken_as r b.0 a.0 b.1 a.1 b.2 a.2.has_route).1 b.3))
    by (inr (inr (inr a))) (inl b) = absurd (b.0 a.0 a.1 a.2.has_route)
    by (inr (inr (inr a))) (inr (inl b)) = absurd (b.3 (taken_as r a.0 b.0 a.1 b.1 a.2 b.2).0)
    by (inr (inr (inr a))) (inr (inr (inl b))) = absurd (b.3 (subst IsName (taken_as r a.0 b.0 a.1 b.1 a.2 b.2.has_route).1 a.3))
    by (inr (inr (inr a))) (inr (inr (inr b))) = a.5 ∙ sym b.5

-- Routing a request has at most one outcome.
pub routed_once : (r : RequestValue) (x y : Result Call Refusal) → RoutesTo r x → RoutesTo r y → x ≡ y
routed_once r (Ok call) (Ok other) p q = ap Ok (call_once r call other p q)
routed_once r (Ok call) (Err refusal) p q = absurd (called_not_refused r call refusal p q)
routed_once r (Err refusal) (Ok call) p q = absurd (called_not_refused r call refusal q p)
routed_once r (Err refusal) (Err other) p q = ap Err (refused_once r refusal other p q)
