-- Lemmas about targets: the row and the parameter that the router finds are the route and its part
-- for the name.
use Rattle.std.proofs.Common.{◌≡◌, ◌≢◌, ◌<◌, ◌≤◌, ◌-◌, ◌+◌, ℕ, zero, suc, List, [], ◌∷◌, ◌++◌, length, drop, get_or, Bool, true}
use Rattle.std.proofs.Common.{false, Option, Some, None, Bor, MatchOption, Contains, codes, refl, sym, ◌∙◌, ap, subst, arith, rules}
use Rattle.std.proofs.Common.{append-nil, length-append}
use Rattle.std.proofs.lemmas.Bool.{lt-ltb, le-leb}
use Rattle.std.proofs.lemmas.Str.{IsUtf8-drop, IsUtf8-take, IsCharBoundary-after_ascii, IsCharBoundary-before_ascii, IsUtf8-from_ascii}
use Rattle.std.proofs.Math.Seq.{take-append_seam, drop-append_seam}
use Rattle.std.specs.Str.{IsUtf8}
use Rattle.matchit.specs.Params.{walk, named, AllText, next_at, part_of}
use Rattle.matchit.specs.Rows.{RowsOf}
use Rattle.matchit.specs.Seek.{first, has_slash, segment}
use Rattle.matchit.specs.Router.{RouteOf}
use Rattle.tfs_calls.specs.declared.query.Kind.{Kind}
use Rattle.tfs_calls.specs.declared.query.Kind.TheVariants.{Any, All}
use Rattle.tfs_http.specs.declared.routes.Served.{Served}
use Rattle.tfs_http.specs.Routing.{slash, Route, IsPathOf, state_path, impact_path, kind_part, routes, route_of}
use Rattle.tfs_http.specs.Rows.{state_row, impact_row, route_rows}
use Rattle.tfs_http.proofs.PathLemmas.{slash_found, slash_tested, segment_at}
use Rattle.tfs_http.proofs.RoutingLemmas.{AreBytes, IsAnswered, is_impact, is_state, answered, impact_answered, state_answered}

-- A part that isn't empty and has no slash is a byte and a rest.
part_shape : (part : List ℕ) → part ≢ [] → ¬ (Contains part slash) → (b : ℕ) × (rest : List ℕ) × (part ≡ b ∷ rest) × (has_slash part ≡ false)
part_shape [] filled whole = absurd (filled refl)
part_shape (b ∷ rest) filled whole = by (has_slash (b ∷ rest)) refl
  where
    by : (v : Bool) → has_slash (b ∷ rest) ≡ v → (c : ℕ) × (others : List ℕ) × (b ∷ rest ≡ c ∷ others) × (has_slash (b ∷ rest) ≡ false)
    by true e = absurd (whole (slash_found (b ∷ rest) e))
    by false e = (b, rest, refl, e)

-- A part that doesn't pass `has_slash` contains no slash.
no_slash_whole : (part : List ℕ) → has_slash part ≡ false → ¬ (Contains part slash)
no_slash_whole part h w = cc (slash_tested part w)

-- For a path with a route, the search finds a row.
pub path_answered : (route : Route) (path part : List ℕ) → AreBytes path → Contains routes route → IsPathOf route path part
    → (row : RouteOf Served) × (first route_rows path ≡ Some row)
path_answered route path part bytes listed p =
    let s = part_shape part p.filled p.whole in by route listed p s.0 s.1 s.2 s.3
  where
    of_impact : (kind : Kind) → IsPathOf (impact_path kind) path part → (b : ℕ) (rest : List ℕ) → part ≡ b ∷ rest → has_slash part ≡ false
        → (row : RouteOf Served) × (first route_rows path ≡ Some row)
    of_impact kind p b rest is h =
        let parts : path ≡ codes "/impact/" ++ (b ∷ (rest ++ kind_part kind)) = p.parts ∙ ap (λ t. codes "/impact/" ++ (t ++ kind_part kind)) is in
        let at = bytes 8 in
        let low : get_or (codes "/impact/" ++ (b ∷ (rest ++ kind_part kind))) 8 0 < 256 = subst (λ t. get_or t 8 0 < 256) parts (omega (arith, at)) in (
          impact_row kind,
          ap (λ t. first route_rows t) parts ∙ impact_answered kind b rest low (subst (λ t. has_slash t ≡ false) is h),
        )

    of_state : IsPathOf state_path path part → (b : ℕ) (rest : List ℕ) → part ≡ b ∷ rest → has_slash part ≡ false
        → (row : RouteOf Served) × (first route_rows path ≡ Some row)
    of_state p b rest is h =
        let parts : path ≡ codes "/state/" ++ (b ∷ rest) = p.parts ∙ ap (λ t. codes "/state/" ++ t) (append-nil part ∙ is) in
        let at = bytes 7 in
        let low : get_or (codes "/state/" ++ (b ∷ rest)) 7 0 < 256 = subst (λ t. get_or t 7 0 < 256) parts (omega (arith, at)) in (
          state_row,
          ap (λ t. first route_rows t) parts ∙ state_answered b rest low (subst (λ t. has_slash t ≡ false) is h),
        )

    by : (route : Route) → Contains routes route → IsPathOf route path part → (b : ℕ) (rest : List ℕ) → part ≡ b ∷ rest → has_slash part ≡ false
        → (row : RouteOf Served) × (first route_rows path ≡ Some row)
    by route (zero, within, is) p = of_state (subst (λ t. IsPathOf t path part) (sym is) p)
    by route (suc zero, within, is) p = of_impact Any (subst (λ t. IsPathOf t path part) (sym is) p)
    by route (suc (suc zero), within, is) p = of_impact All (subst (λ t. IsPathOf t path part) (sym is) p)
    by route (suc (suc (suc k)), within, is) p = absurd (omega (arith, within))

-- If the search finds no row, the path has no route.
pub none_found : (path : List ℕ) (rows : RowsOf (RouteOf Served)) → rows ≡ route_rows → AreBytes path → first rows path ≡ None → (route : Route) (part : List ℕ)
    → Contains routes route → ¬ (IsPathOf route path part)
none_found path rows one bytes none route part listed p =
    let found = path_answered route path part bytes listed p in cc (ap (λ t. first t path) one, none, found.1)

-- Seven positions from the start are position 7.
seven_on : (len : ℕ) → 7 ≤ len → next_at len (next_at len (next_at len (next_at len (next_at len (next_at len (next_at len 0)))))) ≡ 7
seven_on len long = simp (
  lt-ltb 0 len (omega arith),
  lt-ltb 1 len (omega arith),
  lt-ltb 2 len (omega arith),
  lt-ltb 3 len (omega arith),
  lt-ltb 4 len (omega arith),
  lt-ltb 5 len (omega arith),
  lt-ltb 6 len (omega arith),
) refl

-- Eight positions from the start are position 8.
eight_on : (len : ℕ) → 8 ≤ len → next_at len (next_at len (next_at len (next_at len (next_at len (next_at len (next_at len (next_at len 0))))))) ≡ 8
eight_on len long = rw (seven_on len (omega arith)) (simp (lt-ltb 7 len (omega arith)) refl)

-- The text between the positions of a front's and a part's end is the part.
between : (front part back : List ℕ) (stop : ℕ) → stop ≡ length front + length part → part_of (front ++ (part ++ back)) (length front) stop ≡ part
between front part back stop is =
    let size = length-append front (part ++ back) in
    let more = length-append part back in
    let begins = le-leb (length front) stop (omega arith) in
    let ends = le-leb stop (length (front ++ (part ++ back))) (omega arith) in
    let less : stop - length front ≡ length part = omega arith in
    rw (begins, ends, drop-append_seam front (part ++ back), less) (take-append_seam part back)

-- In the path of a state, the parameter `name` is the part.
name_of_state : (path part : List ℕ) → path ≡ codes "/state/" ++ part
    → walk state_row.pattern state_row.text path state_row.names 0 0 ≡ (codes "name", part) ∷ []
name_of_state path part parts =
    let size = ap length parts ∙ length-append (codes "/state/") part in
    let all : path ≡ codes "/state/" ++ (part ++ []) = parts ∙ ap (λ t. codes "/state/" ++ t) (sym (append-nil part)) in
    rw (seven_on (length path) (omega arith))
    (ap (λ t. (codes "name", part_of t 7 (length path)) ∷ []) all
    ∙ ap (λ t. (codes "name", t) ∷ []) (between (codes "/state/") part [] (length path) (omega arith)))

-- In the path of an impact, the parameter `name` is the part.
name_of_impact : (kind : Kind) (path part : List ℕ) → path ≡ codes "/impact/" ++ (part ++ kind_part kind) → has_slash part ≡ false
    → walk (impact_row kind).pattern (impact_row kind).text path (impact_row kind).names 0 0 ≡ (codes "name", part) ∷ []
name_of_impact kind path part parts h = by kind parts
  where
    stop : (word : List ℕ) → path ≡ codes "/impact/" ++ (part ++ 47 ∷ word) → (n : ℕ) → n ≡ length (segment (drop 8 path)) → 8 + n - 1 ≡ 8 + length part
    stop word parts n is =
        let left : n ≡ length (part ++ 47 ∷ []) = is ∙ ap (λ t. length (segment (drop 8 t))) parts ∙ ap length (segment_at part word h) in
        let size = length-append part (47 ∷ []) in
        omega arith

    taken : (word : List ℕ) → path ≡ codes "/impact/" ++ (part ++ 47 ∷ word) → part_of path 8 (8 + length (segment (drop 8 path)) - 1) ≡ part
    taken word parts =
        ap (λ n. part_of path 8 n) (stop word parts (length (segment (drop 8 path))) refl)
        ∙ ap (λ t. part_of t 8 (8 + length part)) parts
        ∙ between (codes "/impact/") part (47 ∷ word) (8 + length part) refl

    long : (kind : Kind) → path ≡ codes "/impact/" ++ (part ++ kind_part kind) → 8 ≤ length path
    long kind parts =
        let size = ap length parts ∙ length-append (codes "/impact/") (part ++ kind_part kind) in omega arith

    by : (kind : Kind) → path ≡ codes "/impact/" ++ (part ++ kind_part kind)
        → walk (impact_row kind).pattern (impact_row kind).text path (impact_row kind).names 0 0 ≡ (codes "name", part) ∷ []
    by Any parts = rw (eight_on (length path) (long Any parts)) (ap (λ t. (codes "name", t) ∷ []) (taken (codes "any") parts))
    by All parts = rw (eight_on (length path) (long All parts)) (ap (λ t. (codes "name", t) ∷ []) (taken (codes "all") parts))

-- The row's route matches the path, and the parameter `name` is the route's part, which is UTF-8 if
-- the path is.
pub record Matched (path : List ℕ) (row : RouteOf Served) : Type 0 where
  pub part : List ℕ
  pub is_path : IsPathOf (route_of row.value) path part
  pub taken : walk row.pattern row.text path row.names 0 0 ≡ (codes "name", part) ∷ []
  pub text : IsUtf8 path → IsUtf8 part

-- The text after an ASCII byte of a UTF-8 text is UTF-8.
text_behind : (front rest : List ℕ) (path : List ℕ) (n : ℕ) → path ≡ front ++ rest → length front ≡ n + 1 → get_or front n 0 ≡ 47
    → get_or path n 0 ≡ get_or front n 0 → IsUtf8 path → IsUtf8 rest
text_behind front rest path n parts size last same text =
    let long = ap length parts ∙ length-append front rest in
    let code : get_or path n 0 ≡ 47 = same ∙ last in
    let cut = IsUtf8-drop path (n + 1) text (IsCharBoundary-after_ascii path n text (omega arith) (omega arith)) in
    subst IsUtf8 (ap (λ k. drop k path) (sym size) ∙ ap (λ t. drop (length front) t) parts ∙ drop-append_seam front rest) cut

-- The element after a part is the byte that was appended to it.
byte_behind : (part word : List ℕ) (x : ℕ) → get_or (part ++ x ∷ word) (length part) 0 ≡ x
byte_behind [] word x = refl
byte_behind (b ∷ part) word x = byte_behind part word x

-- The text before a slash in a UTF-8 text is UTF-8.
text_before : (part word : List ℕ) → IsUtf8 (part ++ 47 ∷ word) → IsUtf8 part
text_before part word text =
    let size = length-append part (47 ∷ word) in
    let code = byte_behind part word 47 in
    let cut = IsUtf8-take (part ++ 47 ∷ word) (length part) text
    (IsCharBoundary-before_ascii (part ++ 47 ∷ word) (length part) (omega arith) (omega arith)) in
    subst IsUtf8 (take-append_seam part (47 ∷ word)) cut

-- `Matched` holds of each row that matches the path.
pub matched : (path : List ℕ) (row : RouteOf Served) → IsAnswered path row → Matched path row
matched path row (is_impact kind b part is parts h) = subst (λ t. Matched path t) (sym is) (by kind parts)
  where
    by : (kind : Kind) → path ≡ codes "/impact/" ++ (b ∷ (part ++ kind_part kind)) → Matched path (impact_row kind)
    by Any parts = record {
      part = b ∷ part;
      is_path = record { parts = parts; filled = λ none. cc; whole = no_slash_whole (b ∷ part) h };
      taken = name_of_impact Any path (b ∷ part) parts h;
      text = λ u. text_before (b ∷ part) (codes "any")
          (text_behind (codes "/impact/") (b ∷ (part ++ codes "/any")) path 7 parts refl refl (ap (λ t. get_or t 7 0) parts) u);
    }
    by All parts = record {
      part = b ∷ part;
      is_path = record { parts = parts; filled = λ none. cc; whole = no_slash_whole (b ∷ part) h };
      taken = name_of_impact All path (b ∷ part) parts h;
      text = λ u. text_before (b ∷ part) (codes "all")
          (text_behind (codes "/impact/") (b ∷ (part ++ codes "/all")) path 7 parts refl refl (ap (λ t. get_or t 7 0) parts) u);
    }
matched path row (is_state b part is parts h) = subst (λ t. Matched path t) (sym is) (record {
  part = b ∷ part;
  is_path = record { parts = parts ∙ ap (λ t. codes "/state/" ++ t) (sym (append-nil (b ∷ part))); filled = λ none. cc; whole = no_slash_whole (b ∷ part) h };
  taken = name_of_state path (b ∷ part) parts;
  text = text_behind (codes "/state/") (b ∷ part) path 6 parts refl refl (ap (λ t. get_or t 6 0) parts);
})

-- The result of looking up `name`: the value of the parameter, or none if there is no such
-- parameter.
abbrev GivesName : Option (Bor (List ℕ)) → List (List ℕ × List ℕ) → Type 0
GivesName r taken = MatchOption r (named (codes "name") taken ≡ None) (λ part. named (codes "name") taken ≡ Some part.now)

-- Looking up `name` gives the part of the path for the name.
pub part_found : (r : Option (Bor (List ℕ))) (path taken pattern text : List ℕ) (names : List (ℕ × ℕ)) (value : Served) (rows : RowsOf (RouteOf Served))
    → rows ≡ route_rows → AreBytes path → IsUtf8 path → taken ≡ path
    → first rows path ≡ Some (record { pattern = pattern; text = text; names = names; value = value })
    → (AllText (walk pattern text taken names 0 0) → GivesName r (walk pattern text taken names 0 0))
    → MatchOption r ⊥ (λ part. IsPathOf (route_of value) path part.now)
part_found r path taken pattern text names value rows one bytes utf8 same found gives =
    by r (subst (λ l. AllText l → GivesName r l) list gives (IsUtf8-from_ascii (codes "name") (search rules), m.text utf8, tt))
  where
    m : Matched path (record { pattern = pattern; text = text; names = names; value = value })
    m = matched path (record { pattern = pattern; text = text; names = names; value = value })
        (answered path (record { pattern = pattern; text = text; names = names; value = value }) bytes (ap (λ t. first t path) (sym one) ∙ found))

    list : walk pattern text taken names 0 0 ≡ (codes "name", m.part) ∷ []
    list = ap (λ t. walk pattern text t names 0 0) same ∙ m.taken

    by : (o : Option (Bor (List ℕ))) → MatchOption o (Some m.part ≡ None) (λ part. Some m.part ≡ Some part.now)
        → MatchOption o ⊥ (λ part. IsPathOf (route_of value) path part.now)
    by None e = cc
    by (Some part) e = let is : m.part ≡ part.now = cc in subst (IsPathOf (route_of value) path) is m.is_path
