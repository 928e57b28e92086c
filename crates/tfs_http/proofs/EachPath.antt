-- Every path has exactly one route and one part for the name, or no route.
use Rattle.std.proofs.Common.{◌≡◌, ◌⊎◌, ◌∙◌, ◌<◌, ℕ, zero, suc, List, [], ◌∷◌, ◌++◌, length, drop, get_or, nat_eq, Bool, true, false}
use Rattle.std.proofs.Common.{Contains, append-nil, length-append}
use Rattle.std.proofs.Common.{codes, refl, sym, ap, subst, inl, inr, arith}
use Rattle.std.specs.List.{starts_with}
use Rattle.std.specs.Cmp.Lexicographic.{bytes_decides}
use Rattle.matchit.specs.Seek.{has_slash, same_text}
use Rattle.matchit.proofs.LookupLemmas.{append-cancel}
use Rattle.tfs_calls.specs.declared.query.Kind.{Kind}
use Rattle.tfs_calls.specs.declared.query.Kind.TheVariants.{Any, All}
use Rattle.tfs_http.specs.declared.routes.Served.{Served}
use Rattle.tfs_http.specs.declared.routes.Served.TheVariants as served
use Rattle.tfs_http.specs.Routing.{slash, Route, IsPathOf, routes, state_path, impact_path, kind_part, route_of}
use Rattle.tfs_http.proofs.PathLemmas.{IsSplit, no_slash, at_slash, split_at, split_once, slash_found, slash_tested, differ_at}
use Rattle.tfs_framing.proofs.PrefixLemmas.{front_split, front_joined}

-- Equality of two texts is decidable.
pub text_decided : (text other : List ℕ) → (text ≡ other) ⊎ ¬ (text ≡ other)
text_decided text other = by (same_text text other) refl
  where
    by : (v : Bool) → same_text text other ≡ v → (text ≡ other) ⊎ ¬ (text ≡ other)
    by true e = inl ((bytes_decides text other).0 e)
    by false e = inr (λ is. cc (e, (bytes_decides text other).1 is))

-- The route of each thing served is in the list of routes.
pub is_listed : (served : Served) → Contains routes (route_of served)
is_listed served.State = (0, omega arith, refl)
is_listed (served.Impact Any) = (1, omega arith, refl)
is_listed (served.Impact All) = (2, omega arith, refl)

-- Each route in the list is the route of something served.
pub served_by : (route : Route) → Contains routes route → (served : Served) × (route ≡ route_of served)
served_by route (zero, within, is) = (served.State, sym is)
served_by route (suc zero, within, is) = (served.Impact Any, sym is)
served_by route (suc (suc zero), within, is) = (served.Impact All, sym is)
served_by route (suc (suc (suc k)), within, is) = absurd (omega (arith, within))

-- A part that contains no slash doesn't pass `has_slash`.
tested : (part : List ℕ) → ¬ (Contains part slash) → has_slash part ≡ false
tested part whole = by (has_slash part) refl
  where
    by : (v : Bool) → has_slash part ≡ v → has_slash part ≡ false
    by true e = absurd (whole (slash_found part e))
    by false e = e

-- The text after the name and its slash, for each kind of query.
abbrev word_of : Kind → List ℕ
word_of Any = codes "any"
word_of All = codes "all"

-- The text after the name is a slash and this word.
word_is : (kind : Kind) → kind_part kind ≡ 47 ∷ word_of kind
word_is Any = refl
word_is All = refl

-- Kinds with the same word are equal.
kind_once : (kind other : Kind) → word_of kind ≡ word_of other → kind ≡ other
kind_once Any Any e = refl
kind_once Any All e = absurd (differ_at (codes "any") (codes "all") 1 110 108 refl refl (λ n. omega arith) e)
kind_once All Any e = absurd (differ_at (codes "all") (codes "any") 1 108 110 refl refl (λ n. omega arith) e)
kind_once All All e = refl

-- A path has at most one route, and one part for the name.
pub path_once : (path : List ℕ) (served other : Served) (part last : List ℕ) → IsPathOf (route_of served) path part → IsPathOf (route_of other) path last
    → (served ≡ other) × (part ≡ last)
path_once path served.State served.State part last p q =
    (refl, sym (append-nil part) ∙ append-cancel (codes "/state/") (part ++ []) (last ++ []) (sym p.parts ∙ q.parts) ∙ append-nil last)
path_once path served.State (served.Impact kind) part last p q =
    absurd (differ_at _ _ 1 115 105 refl refl (λ n. omega arith) (sym p.parts ∙ q.parts))
path_once path (served.Impact kind) served.State part last p q =
    absurd (differ_at _ _ 1 105 115 refl refl (λ n. omega arith) (sym p.parts ∙ q.parts))
path_once path (served.Impact kind) (served.Impact other) part last p q =
    let rest = append-cancel (codes "/impact/") (part ++ kind_part kind) (last ++ kind_part other) (sym p.parts ∙ q.parts) in
    let same : part ++ 47 ∷ word_of kind ≡ last ++ 47 ∷ word_of other =
    ap (λ t. part ++ t) (sym (word_is kind)) ∙ rest ∙ ap (λ t. last ++ t) (word_is other) in
    let once = split_once part last (word_of kind) (word_of other) (tested part p.whole) (tested last q.whole) same in
    (ap served.Impact (kind_once kind other once.1), once.0)

-- A text with a slash in the middle passes `has_slash`.
slash_between : (part rest : List ℕ) → has_slash (part ++ 47 ∷ rest) ≡ true
slash_between part rest = slash_tested (part ++ 47 ∷ rest) (length part, within, is part)
  where
    within : length part < length (part ++ 47 ∷ rest)
    within = let size = length-append part (47 ∷ rest) in omega arith

    is : (part : List ℕ) → get_or (part ++ 47 ∷ rest) (length part) 47 ≡ 47
    is [] = refl
    is (b ∷ part) = is part

-- The path has a route of something served, or no route in the list matches it.
abbrev IsDecided : List ℕ → Type 0
IsDecided path = ((served : Served) × (part : List ℕ) × IsPathOf (route_of served) path part)
    ⊎ ((route : Route) (part : List ℕ) → Contains routes route → ¬ (IsPathOf route path part))

-- If the path matches the route of nothing served, no route in the list matches it.
no_route : (path : List ℕ) → ((served : Served) (part : List ℕ) → ¬ (IsPathOf (route_of served) path part)) → IsDecided path
no_route path none = inr (λ route part listed p. let one = served_by route listed in none one.0 part (subst (λ t. IsPathOf t path part) one.1 p))

-- The rest of an impact's path after `/impact/` is the name, a slash and the word of the kind.
rest_is : (path s : List ℕ) (kind : Kind) (part : List ℕ) → path ≡ codes "/impact/" ++ s → IsPathOf (impact_path kind) path part
    → (s ≡ part ++ 47 ∷ word_of kind) × (has_slash part ≡ false)
rest_is path s kind part e p = (
  append-cancel (codes "/impact/") s (part ++ 47 ∷ word_of kind) (sym e ∙ p.parts ∙ ap (λ t. codes "/impact/" ++ (part ++ t)) (word_is kind)),
  tested part p.whole,
)

-- It is decidable whether a path that begins with `/impact/` has a route.
impact_decided : (path s : List ℕ) → path ≡ codes "/impact/" ++ s → IsDecided path
impact_decided path s e = by (split_at s)
  where
    unless : ((kind : Kind) (part : List ℕ) → ¬ (IsPathOf (impact_path kind) path part)) → IsDecided path
    unless none = no_route path go
      where
        go : (served : Served) (part : List ℕ) → ¬ (IsPathOf (route_of served) path part)
        go served.State part p = differ_at _ _ 1 105 115 refl refl (λ n. omega arith) (sym e ∙ p.parts)
        go (served.Impact kind) part p = none kind part p

    found : (kind : Kind) (b : ℕ) (a rest : List ℕ) → s ≡ (b ∷ a) ++ 47 ∷ rest → has_slash (b ∷ a) ≡ false → rest ≡ word_of kind → IsDecided path
    found kind b a rest is h word = inl (
      served.Impact kind,
      b ∷ a,
      record {
        parts = e ∙ ap (λ t. codes "/impact/" ++ t) (is ∙ ap (λ t. (b ∷ a) ++ 47 ∷ t) word ∙ ap (λ t. (b ∷ a) ++ t) (sym (word_is kind)));
        filled = λ none. cc;
        whole = λ w. cc (slash_tested (b ∷ a) w);
      },
    )

    by : IsSplit s → IsDecided path
    by (no_slash h) = unless (λ kind part p.
        let r = rest_is path s kind part e p in cc (ap (λ t. has_slash t) r.0, slash_between part (word_of kind)))
    by (at_slash [] rest is h) = unless (λ kind part p.
        let r = rest_is path s kind part e p in
        p.filled (sym (split_once [] part rest (word_of kind) refl r.1 (sym is ∙ r.0)).0))
    by (at_slash (b ∷ a) rest is h) = elim (text_decided rest (codes "any")) [
      | inl any ↦ found Any b a rest is h any
      | inr not_any ↦ elim (text_decided rest (codes "all")) [
        | inl all ↦ found All b a rest is h all
        | inr neither ↦ unless (λ kind part p.
            let r = rest_is path s kind part e p in
            other not_any neither kind (split_once (b ∷ a) part rest (word_of kind) h r.1 (sym is ∙ r.0)).1)
      ]
    ]
      where
        other : ¬ (rest ≡ codes "any") → ¬ (rest ≡ codes "all") → (kind : Kind) → ¬ (rest ≡ word_of kind)
        other first second Any = first
        other first second All = second

-- It is decidable whether a path that begins with `/state/` has a route.
state_decided : (path s : List ℕ) → path ≡ codes "/state/" ++ s → IsDecided path
state_decided path s e = by s refl (has_slash s) refl
  where
    unless : ((part : List ℕ) → s ≡ part → ¬ (IsPathOf state_path path part)) → IsDecided path
    unless none = no_route path go
      where
        go : (served : Served) (part : List ℕ) → ¬ (IsPathOf (route_of served) path part)
        go served.State part p =
            none part (append-cancel (codes "/state/") s part (sym e ∙ p.parts ∙ ap (λ t. codes "/state/" ++ t) (append-nil part))) p
        go (served.Impact kind) part p = differ_at _ _ 1 115 105 refl refl (λ n. omega arith) (sym e ∙ p.parts)

    by : (t : List ℕ) → s ≡ t → (v : Bool) → has_slash s ≡ v → IsDecided path
    by t same true h = unless (λ part is p. p.whole (slash_found part (ap (λ t. has_slash t) (sym is) ∙ h)))
    by [] same false h = unless (λ part is p. p.filled (sym is ∙ same))
    by (b ∷ t) same false h = inl (
      served.State,
      s,
      record {
        parts = e ∙ ap (λ t. codes "/state/" ++ t) (sym (append-nil s));
        filled = λ none. cc;
        whole = λ w. cc (slash_tested s w);
      },
    )

-- It is decidable whether a path has a route.
pub path_decided : (path : List ℕ) → IsDecided path
path_decided path = by (starts_with nat_eq path (codes "/impact/")) refl (starts_with nat_eq path (codes "/state/")) refl
  where
    neither : starts_with nat_eq path (codes "/impact/") ≡ false → starts_with nat_eq path (codes "/state/") ≡ false → (served : Served) (part : List ℕ)
        → ¬ (IsPathOf (route_of served) path part)
    neither a b served.State part p = cc (b, ap (λ t. starts_with nat_eq t (codes "/state/")) p.parts, front_joined (codes "/state/") (part ++ []))
    neither a b (served.Impact kind) part p =
        cc (a, ap (λ t. starts_with nat_eq t (codes "/impact/")) p.parts, front_joined (codes "/impact/") (part ++ kind_part kind))

    by : (u : Bool) → starts_with nat_eq path (codes "/impact/") ≡ u → (v : Bool) → starts_with nat_eq path (codes "/state/") ≡ v → IsDecided path
    by true a v b = impact_decided path (drop 8 path) (front_split (codes "/impact/") path a)
    by false a true b = state_decided path (drop 7 path) (front_split (codes "/state/") path b)
    by false a false b = no_route path (neither a b)
