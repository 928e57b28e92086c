-- Lemmas about routing: the router's rows match exactly the paths of the routes.
use Rattle.std.proofs.Common.{◌≡◌, ◌⊎◌, ◌<◌, ◌-◌, ◌+◌, ◌==◌, ℕ, zero, suc, List, [], ◌∷◌, ◌++◌, length, drop, get_or, cond}
use Rattle.std.proofs.Common.{nat_eq, Bool, true}
use Rattle.std.proofs.Common.{false, Option, Some, None, codes, refl, sym, ◌∙◌, ap, subst, inl, inr, arith, rules}
use Rattle.std.proofs.Common.{append-nil, length-append, Fits, w8}
use Rattle.std.proofs.lemmas.Bool.Decides.{nat_tests}
use Rattle.std.proofs.Math.Seq.{drop-append_seam}
use Rattle.std.specs.List.{starts_with, ends_with}
use Rattle.matchit.specs.Rows.{Rows, prepend, param_token}
use Rattle.matchit.specs.Seek.{seek, first, param_step, or_else, has_slash, segment, cuts, longest_suffix}
use Rattle.matchit.specs.Router.{RouteOf, map_key}
use Rattle.matchit.proofs.SeekLemmas.{seek-empty, seek-drop, or_else-none}
use Rattle.matchit.proofs.SeekLemmas.{param_step-empty, first-prefix}
use Rattle.matchit.proofs.RenameLemmas.{first-rename}
use Rattle.tfs_calls.specs.declared.query.Kind.{Kind}
use Rattle.tfs_calls.specs.declared.query.Kind.TheVariants.{Any, All}
use Rattle.tfs_http.specs.declared.routes.Served.{Served}
use Rattle.tfs_http.specs.Routing.{kind_part}
use Rattle.tfs_http.specs.Rows.{state_row, impact_row, route_rows}
use Rattle.tfs_http.proofs.PathLemmas.{IsSplit, no_slash, at_slash, split_at, segment_at, segment_all, ends_otherwise, ends_so, differ_at}
use Rattle.tfs_framing.proofs.PrefixLemmas.{front_split}
use Rattle.tfs_http.proofs.RowLemmas.{fork, skips_all}

-- ---- the text after a name

-- The rows of impacts without the text up to the name's end.
abbrev tails : Rows
tails = (codes "/all", 0) ∷ (codes "/any", 1) ∷ []

-- The rows of impacts without the text before the name.
abbrev impact_rows : Rows
impact_rows = (param_token ∷ codes "/all", 0) ∷ (param_token ∷ codes "/any", 1) ∷ []

-- The row of states without the text before the name: a single parameter.
abbrev state_rows : Rows
state_rows = (param_token ∷ [], 2) ∷ []

-- A parameter at the end of a route matches a rest of at least one byte exactly if it has no slash.
takes_rest : (b : ℕ) (p : List ℕ) → b < 256 → first state_rows (b ∷ p) ≡ cond (has_slash (b ∷ p)) None (Some 2)
unfolding seek param_step
takes_rest b p small = by (has_slash (b ∷ p)) refl
  where
    other : (param_token == b) ≡ false
    other = grind (arith, nat_tests)

    one_less : suc (length p) - 1 ≡ length p
    one_less = omega arith

    by : (v : Bool) → has_slash (b ∷ p) ≡ v → first state_rows (b ∷ p) ≡ cond v None (Some 2)
    by true e = simp (other, e, seek-empty 0 p) refl
    by false e = simp (other, e, seek-empty 0 p)
        (ap (λ n. or_else (seek n (([], 2) ∷ []) p) None) one_less ∙ ap (λ o. or_else o None) (skips_all (([], 2) ∷ []) p))

-- The longest suffix of a segment among `tails` is the slash, if the segment ends with one after at
-- least one byte.
suffix_is : (seg : List ℕ) (v : Bool) → cuts seg (codes "/") ≡ v → longest_suffix seg tails ≡ cond v (codes "/") []
suffix_is seg true e = rw e refl
suffix_is seg false e = rw e refl

-- The search in the rows of impacts begins with the parameter.
impact_step : (b : ℕ) (p : List ℕ) → b < 256
    → first impact_rows (b ∷ p) ≡ or_else (seek ((param_step tails (b ∷ p)).0 - 1) (param_step tails (b ∷ p)).1 p) None
unfolding seek
impact_step b p small =
    let other : (param_token == b) ≡ false = grind (arith, nat_tests) in
    simp (other, seek-empty 0 p) refl

-- A rest without a slash matches no row of impacts.
impact_whole : (b : ℕ) (p : List ℕ) → b < 256 → has_slash (b ∷ p) ≡ false → first impact_rows (b ∷ p) ≡ None
unfolding param_step
impact_whole b p small h =
    impact_step b p small
    ∙ ap (λ s. or_else (seek (s.0 - 1) s.1 p) None) stepped
    ∙ ap (λ n. or_else (seek n tails p) None) one_less ∙ ap (λ o. or_else o None) (skips_all tails p)
  where
    one_less : suc (length p) - 1 ≡ length p
    one_less = omega arith

    cut : cuts (segment (b ∷ p)) (codes "/") ≡ false
    cut = rw (segment_all (b ∷ p) h, ends_otherwise (b ∷ p) h) (grind rules)

    stepped : param_step tails (b ∷ p) ≡ (suc (length p), tails)
    stepped = rw (suffix_is (segment (b ∷ p)) false cut, h) refl

-- A rest that begins with a slash matches no row of impacts.
impact_slash : (p : List ℕ) → first impact_rows (47 ∷ p) ≡ None
unfolding seek param_step
impact_slash p = simp (seek-empty 0 p) refl

-- After a part without a slash, the search continues in `tails`.
impact_part : (b : ℕ) (part rest : List ℕ) → b < 256 → has_slash (b ∷ part) ≡ false
    → first impact_rows (b ∷ (part ++ 47 ∷ rest)) ≡ first tails (47 ∷ rest)
unfolding param_step
impact_part b part rest small h =
    impact_step b (part ++ 47 ∷ rest) small
    ∙ ap (λ s. or_else (seek (s.0 - 1) s.1 (part ++ 47 ∷ rest)) None) stepped
    ∙ ap (λ n. or_else (seek n tails (part ++ 47 ∷ rest)) None) one_less
    ∙ or_else-none (seek (length part) tails (part ++ 47 ∷ rest))
    ∙ seek-drop (length part) tails (part ++ 47 ∷ rest)
    ∙ ap (λ t. seek 0 tails t) (drop-append_seam part (47 ∷ rest))
  where
    one_less : suc (length part) - 1 ≡ length part
    one_less = omega arith

    seg : List ℕ
    seg = b ∷ (part ++ 47 ∷ [])

    size : length (part ++ 47 ∷ []) ≡ length part + 1
    size = length-append part (47 ∷ [])

    cut : cuts seg (codes "/") ≡ true
    cut =
        let one = size in
        let long : cuts seg (codes "/") ≡ ends_with nat_eq seg (codes "/") = grind (arith, nat_tests, one) in
        long ∙ ends_so (b ∷ part)

    less : length seg - 1 ≡ suc (length part)
    less = let one = size in omega (arith, one)

    stepped : param_step tails (b ∷ (part ++ 47 ∷ rest)) ≡ (suc (length part), tails)
    stepped = rw (segment_at (b ∷ part) rest h, suffix_is seg true cut) (ap (λ n. (n, tails)) less)

-- ---- the tails

-- A text for which the search in `tails` finds a key is `/all` with key 0 or `/any` with key 1.
pub tail_is : (q : List ℕ) (key : ℕ) → first tails q ≡ Some key → ((key ≡ 0) × (q ≡ codes "/all")) ⊎ ((key ≡ 1) × (q ≡ codes "/any"))
unfolding seek
tail_is q key e = by (starts_with nat_eq q (codes "/all")) refl (starts_with nat_eq q (codes "/any")) refl (sym answers ∙ e)
  where
    ends : ℕ → Rows
    ends k = ([], k) ∷ []

    answers : first tails q ≡ or_else (cond (starts_with nat_eq q (codes "/all")) (first (ends 0) (drop 4 q)) None)
        (cond (starts_with nat_eq q (codes "/any")) (first (ends 1) (drop 4 q)) None)
    answers = fork (codes "/all") (codes "/any") (ends 0) (ends 1) q (search rules) (search rules)
        (inr (refl, inr (refl, inl (λ e. omega arith))))
        ∙ ap (λ o. or_else o (first (prepend (codes "/any") (ends 1)) q)) (first-prefix (codes "/all") (ends 0) q (search rules))
        ∙ ap (or_else (cond (starts_with nat_eq q (codes "/all")) (first (ends 0) (drop 4 q)) None)) (first-prefix (codes "/any") (ends 1) q (search rules))

    only : (k : ℕ) (rest : List ℕ) → first (ends k) rest ≡ Some key → (key ≡ k) × (rest ≡ [])
    only k [] h = (cc, refl)
    only k (b ∷ rest) h = cc (seek-empty 0 rest, param_step-empty (b ∷ rest), seek-empty ((param_step {K = ℕ} [] (b ∷ rest)).0 - 1) rest)

    whole : (text : List ℕ) → starts_with nat_eq q text ≡ true → drop (length text) q ≡ [] → q ≡ text
    whole text starts none = front_split text q starts ∙ ap (λ t. text ++ t) none ∙ append-nil text

    by : (u : Bool) → starts_with nat_eq q (codes "/all") ≡ u → (v : Bool) → starts_with nat_eq q (codes "/any") ≡ v
        → or_else (cond u (first (ends 0) (drop 4 q)) None) (cond v (first (ends 1) (drop 4 q)) None) ≡ Some key
        → ((key ≡ 0) × (q ≡ codes "/all")) ⊎ ((key ≡ 1) × (q ≡ codes "/any"))
    by false a false b h = cc
    by false a true b h = let is = only 1 (drop 4 q) h in inr (is.0, whole (codes "/any") b is.1)
    by true a false b h = let is = only 0 (drop 4 q) (sym (or_else-none (first (ends 0) (drop 4 q))) ∙ h) in inl (is.0, whole (codes "/all") a is.1)
    by true a true b h = absurd (differ_at (codes "/all" ++ drop 4 q) (codes "/any" ++ drop 4 q) 2 108 110 refl refl (λ e. omega arith)
        (sym (front_split (codes "/all") q a) ∙ front_split (codes "/any") q b))

-- The row with this key.
abbrev pub row_at : ℕ → RouteOf Served
row_at zero = impact_row All
row_at (suc zero) = impact_row Any
row_at (suc (suc k)) = state_row

-- The key of a kind.
abbrev key_of : Kind → ℕ
key_of All = 0
key_of Any = 1

-- The text of a kind matches the row of `tails` with its key.
tail_answers : (kind : Kind) → first tails (kind_part kind) ≡ Some (key_of kind)
unfolding seek param_step
tail_answers All = refl
tail_answers Any = refl

-- ---- the routes

-- The row that matches a path: after `/impact/` a row of impacts, otherwise after `/state/` the row
-- of states.
pub first_of_rows : (path : List ℕ) → first route_rows path ≡ map_key row_at (or_else
    (cond (starts_with nat_eq path (codes "/impact/")) (first impact_rows (drop 8 path)) None)
    (cond (starts_with nat_eq path (codes "/state/")) (first state_rows (drop 7 path)) None))
first_of_rows path =
    first-rename row_at (prepend (codes "/impact/") impact_rows ++ prepend (codes "/state/") state_rows) path
    ∙ ap (map_key row_at) (fork (codes "/impact/") (codes "/state/") impact_rows state_rows path (search rules) (search rules)
    (inr (refl, inl (λ e. omega arith)))
    ∙ ap (λ o. or_else o (first (prepend (codes "/state/") state_rows) path)) (first-prefix (codes "/impact/") impact_rows path (search rules))
    ∙ ap (or_else (cond (starts_with nat_eq path (codes "/impact/")) (first impact_rows (drop 8 path)) None))
    (first-prefix (codes "/state/") state_rows path (search rules)))

-- The path of an impact matches the row of its kind.
pub impact_answered : (kind : Kind) (b : ℕ) (part : List ℕ) → b < 256 → has_slash (b ∷ part) ≡ false
    → first route_rows (codes "/impact/" ++ (b ∷ (part ++ kind_part kind))) ≡ Some (impact_row kind)
impact_answered kind b part small h =
    first_of_rows (codes "/impact/" ++ (b ∷ (part ++ kind_part kind)))
    ∙ ap (λ o. map_key row_at (or_else o None)) (left kind)
    ∙ same kind
  where
    left : (kind : Kind) → first impact_rows (b ∷ (part ++ kind_part kind)) ≡ Some (key_of kind)
    left Any = impact_part b part (codes "any") small h ∙ tail_answers Any
    left All = impact_part b part (codes "all") small h ∙ tail_answers All

    same : (kind : Kind) → Some (row_at (key_of kind)) ≡ Some (impact_row kind)
    same Any = refl
    same All = refl

-- The path of a state matches its row.
pub state_answered : (b : ℕ) (part : List ℕ) → b < 256 → has_slash (b ∷ part) ≡ false → first route_rows (codes "/state/" ++ (b ∷ part)) ≡ Some state_row
state_answered b part small h =
    first_of_rows (codes "/state/" ++ (b ∷ part)) ∙ ap (map_key row_at) (takes_rest b part small ∙ ap (λ v. cond {A = Option ℕ} v None (Some 2)) h)

-- The row matches the path: it is the row of an impact or a state, and the path has its parts.
pub data IsAnswered (path : List ℕ) (row : RouteOf Served) : Type 0 where
  is_impact : (kind : Kind) (b : ℕ) (part : List ℕ) → row ≡ impact_row kind → path ≡ codes "/impact/" ++ (b ∷ (part ++ kind_part kind))
      → has_slash (b ∷ part) ≡ false → IsAnswered path row
  is_state : (b : ℕ) (part : List ℕ) → row ≡ state_row → path ≡ codes "/state/" ++ (b ∷ part) → has_slash (b ∷ part) ≡ false → IsAnswered path row

-- If a row of impacts matches the rest after `/impact/`, it matches the path.
rest_of_impact : (path s : List ℕ) (row : RouteOf Served) → path ≡ codes "/impact/" ++ s → get_or s 0 0 < 256
    → map_key row_at (first impact_rows s) ≡ Some row → IsAnswered path row
unfolding seek
rest_of_impact path s row parts small e = by s parts small e (split_at s)
  where
    found : (b : ℕ) (part rest : List ℕ) → path ≡ codes "/impact/" ++ (b ∷ (part ++ 47 ∷ rest)) → has_slash (b ∷ part) ≡ false
        → (o : Option ℕ) → first tails (47 ∷ rest) ≡ o → map_key row_at o ≡ Some row → IsAnswered path row
    found b part rest parts h None t e = cc
    found b part rest parts h (Some key) t e = elim (tail_is (47 ∷ rest) key t) [
      | inl all ↦ is_impact All b part (cc (ap row_at all.0)) (parts ∙ ap (λ t. codes "/impact/" ++ (b ∷ (part ++ t))) all.1) h
      | inr any ↦ is_impact Any b part (cc (ap row_at any.0)) (parts ∙ ap (λ t. codes "/impact/" ++ (b ∷ (part ++ t))) any.1) h
    ]

    by : (s : List ℕ) → path ≡ codes "/impact/" ++ s → get_or s 0 0 < 256 → map_key row_at (first impact_rows s) ≡ Some row → IsSplit s → IsAnswered path row
    by [] parts small e split = cc
    by (b ∷ p) parts small e (no_slash h) = cc (impact_whole b p small h)
    by (b ∷ p) parts small e (at_slash [] rest is h) =
        let none = ap (λ t. first impact_rows t) is ∙ impact_slash rest in cc
    by (b ∷ p) parts small e (at_slash (c ∷ part) rest is h) =
        let low : c < 256 = subst (λ t. get_or t 0 0 < 256) is small in
        found c part rest (parts ∙ ap (λ t. codes "/impact/" ++ t) is) h (first tails (47 ∷ rest)) refl
        (ap (map_key row_at) (sym (ap (λ t. first impact_rows t) is ∙ impact_part c part rest low h)) ∙ e)

-- If the row of states matches the rest after `/state/`, it matches the path.
rest_of_state : (path s : List ℕ) (row : RouteOf Served) → path ≡ codes "/state/" ++ s → get_or s 0 0 < 256
    → map_key row_at (first state_rows s) ≡ Some row → IsAnswered path row
unfolding seek
rest_of_state path [] row parts small e = cc
rest_of_state path (b ∷ p) row parts small e = by (has_slash (b ∷ p)) refl (ap (map_key row_at) (sym (takes_rest b p small)) ∙ e)
  where
    by : (v : Bool) → has_slash (b ∷ p) ≡ v → map_key row_at (cond v None (Some 2)) ≡ Some row → IsAnswered path row
    by true h e = cc
    by false h e = is_state b p (cc) parts h

-- Each element of the path is a byte.
abbrev pub AreBytes : List ℕ → Type 0
AreBytes path = (k : ℕ) → Fits w8 (get_or path k 0)

-- Each row that the search finds matches the path.
pub answered : (path : List ℕ) (row : RouteOf Served) → AreBytes path → first route_rows path ≡ Some row → IsAnswered path row
answered path row bytes e =
    by (starts_with nat_eq path (codes "/impact/")) refl (starts_with nat_eq path (codes "/state/")) refl (sym (first_of_rows path) ∙ e)
  where
    eighth : get_or path 8 0 < 256
    eighth = omega (arith, bytes 8)

    seventh : get_or path 7 0 < 256
    seventh = omega (arith, bytes 7)

    by : (u : Bool) → starts_with nat_eq path (codes "/impact/") ≡ u → (v : Bool) → starts_with nat_eq path (codes "/state/") ≡ v
        → map_key row_at (or_else (cond u (first impact_rows (drop 8 path)) None) (cond v (first state_rows (drop 7 path)) None)) ≡ Some row
        → IsAnswered path row
    by true a true b e =
        absurd (differ_at (codes "/impact/" ++ drop 8 path) (codes "/state/" ++ drop 7 path) 1 105 115 refl refl (λ e. omega arith)
        (sym (front_split (codes "/impact/") path a) ∙ front_split (codes "/state/") path b))
    by true a false b e =
        let parts = front_split (codes "/impact/") path a in
        rest_of_impact path (drop 8 path) row parts (subst (λ t. get_or t 8 0 < 256) parts eighth)
        (ap (map_key row_at) (sym (or_else-none (first impact_rows (drop 8 path)))) ∙ e)
    by false a true b e =
        let parts = front_split (codes "/state/") path b in
        rest_of_state path (drop 7 path) row parts (subst (λ t. get_or t 7 0 < 256) parts seventh) e
    by false a false b e = cc
