-- Lemmas about specs/Compact.antt: the workspaces whose names are in use as the rows of a base.
use Rattle.std.proofs.Common.{◌≡◌, ◌+◌, ◌<◌, ◌≤◌, ℕ, List, [], ◌∷◌, ◌++◌, length, map, take, filter, get_or, true, false, cond, Bool}
use Rattle.std.proofs.Common.{◌||◌, ◌&&◌, Option, Some, None, is_some, append-nil, refl, sym, ◌∙◌, ap, subst, arith}
use Rattle.std.specs.List.{find, list_any, AllByRecursion, IsDistinct}
use Rattle.std.specs.List.Sorted.{IsStrictlySortedBy}
use Rattle.std.specs.Option.{option_map_or}
use Rattle.std.specs.Ordering.{nat_cmp, is_eq}
use Rattle.std.specs.declared.cmp.Ordering.TheVariants.{Less}
use Rattle.std.specs.Cmp.Lexicographic.{slice_cmp}
use Rattle.std.specs.Str.{bytes_eq}
use Rattle.std.proofs.lemmas.Cmp.{nat_list_eq_equiv}
use Rattle.std.proofs.lemmas.List.{length-map, map-append}
use Rattle.std.proofs.lemmas.List.Elements.{filter_more}
use Rattle.std.proofs.lemmas.List.Sums.{length-filter, count_by-le-length}
use Rattle.std.proofs.lemmas.Map.Keys.{IsDistinct-head, IsDistinct-tail, IsDistinct-cons}
use Rattle.std.proofs.lemmas.Map.Made.{is_member-filter, length-from_same_keys}
use Rattle.std.proofs.lemmas.Map.Text.{is_eq-slice_cmp}
use Rattle.tfs_rules.specs.Act.{ActValue}
use Rattle.tfs_rules.specs.History.{History, Standing, standing_of}
use Rattle.tfs_rules.specs.Verdict.{verdict_over}
use Rattle.tfs_calls.specs.Transition.{refusal_of, verdict_refusal}
use Rattle.tfs_records.specs.Journal.{Journal, EntryValue, RowValue, BaseValue, IsBase, opened, names_of, position_of}
use Rattle.tfs_records.proofs.BaseLemmas.{base_names}
use Rattle.tfs_records.proofs.JournalLemmas.{names_distinct}
use Rattle.tfs_records.proofs.NameLemmas.{bytes_same, bytes_eq_sym}
use Rattle.tfs_table.specs.Compact.{is_in_use, IsRebasedWith, IsCompacted}
use Rattle.tfs_table.specs.declared.workspace.Workspace.{Workspace}
use Rattle.tfs_table.specs.Workspaces.{is_of, standing_at, row_of, Rise, AreWorkspacesOf}
use Rattle.tfs_table.proofs.RebaseLemmas.{base_known, base_standing, names_of_rows}

-- The workspaces that have a state or a holder.
abbrev pub in_use : List Workspace → List Workspace
in_use ws = filter (λ (w : Workspace). is_in_use w.standing) ws

-- The names of workspaces.
abbrev names_at : List Workspace → List (List ℕ)
names_at ws = map (λ (w : Workspace). w.name) ws

-- A property of all names holds for the names in use.
each_in_use : (P : List ℕ → Type 0) (ws : List Workspace) → AllByRecursion P (names_at ws) → AllByRecursion P (names_at (in_use ws))
each_in_use P [] all = tt
each_in_use P (w ∷ ws) all =
    elim (is_in_use w.standing) as (λ b. AllByRecursion P (names_at (cond b (w ∷ in_use ws) (in_use ws)))) [
      | true ↦ (all.0, each_in_use P ws all.1)
      | false ↦ each_in_use P ws all.1
    ]

-- The names in use rise if all names do.
pub rise_in_use : (ws : List Workspace) → Rise ws → Rise (in_use ws)
unfolding IsStrictlySortedBy
rise_in_use [] rise = rise
rise_in_use (w ∷ ws) rise =
    elim (is_in_use w.standing) as (λ b. Rise (cond b (w ∷ in_use ws) (in_use ws))) [
      | true ↦ (each_in_use (λ y. slice_cmp nat_cmp w.name y ≡ Less) ws rise.0, rise_in_use ws rise.1)
      | false ↦ rise_in_use ws rise.1
    ]

-- There are at most as many names in use as names.
pub few_in_use : (ws : List Workspace) → length (in_use ws) ≤ length ws
few_in_use ws =
    let test : Workspace → Bool = λ w. is_in_use w.standing in
    omega (arith, length-filter test ws, count_by-le-length test ws)

-- No workspace has a name that is below the names of all.
none_above : (name : List ℕ) (ws : List Workspace) → AllByRecursion (λ y. slice_cmp nat_cmp name y ≡ Less) (names_at ws)
    → find (is_of name) ws ≡ None
none_above name [] less = refl
none_above name (w ∷ ws) less =
    let other : is_of name w ≡ false =
    bytes_eq_sym w.name name ∙ sym (is_eq-slice_cmp name w.name) ∙ ap is_eq less.0 in
    rw other (none_above name ws less.1)

-- A workspace, if it is in use.
abbrev if_in_use : Option Workspace → Option Workspace
if_in_use None = None
if_in_use (Some w) = cond (is_in_use w.standing) (Some w) None

-- Among the workspaces in use, a name finds its workspace if that is in use, and none otherwise.
found_in_use : (name : List ℕ) (ws : List Workspace) → Rise ws → find (is_of name) (in_use ws) ≡ if_in_use (find (is_of name) ws)
unfolding IsStrictlySortedBy
found_in_use name [] rise = refl
found_in_use name (w ∷ ws) rise =
    elim (is_in_use w.standing) as (λ u. is_in_use w.standing ≡ u
    → find (is_of name) (cond u (w ∷ in_use ws) (in_use ws)) ≡ if_in_use (cond (is_of name w) (Some w) (find (is_of name) ws))) [
      | true ↦ λ used.
          elim (is_of name w) as (λ b. cond b (Some w) (find (is_of name) (in_use ws)) ≡ if_in_use (cond b (Some w) (find (is_of name) ws))) [
            | true ↦ rw used refl
            | false ↦ found_in_use name ws rise.1
          ]
      | false ↦ λ unused.
          elim (is_of name w) as (λ b. is_of name w ≡ b → find (is_of name) (in_use ws) ≡ if_in_use (cond b (Some w) (find (is_of name) ws))) [
            | true ↦ λ named.
                let same : w.name ≡ name = bytes_same w.name name named in
                let above = subst (λ n. AllByRecursion (λ y. slice_cmp nat_cmp n y ≡ Less) (names_at ws)) same rise.0 in
                none_above name (in_use ws) (each_in_use (λ y. slice_cmp nat_cmp name y ≡ Less) ws above) ∙ rw unused refl
            | false ↦ λ other. found_in_use name ws rise.1
          ] refl
    ] refl

-- A name that isn't in use has the state and holder of an empty history: none.
pub unused_is_empty : (s : Standing) → is_in_use s ≡ false → s ≡ standing_of []
unused_is_empty s unused = by_parts s.state s.holder refl refl
  where
    by_parts : (state : Option _) (holder : Option _) → s.state ≡ state → s.holder ≡ holder → s ≡ standing_of []
    by_parts None None a b = rw (← a, ← b) refl
    by_parts (Some d) holder a b = let no : true ≡ false = ap (λ o. is_some o || is_some s.holder) (sym a) ∙ unused in cc
    by_parts None (Some info) a b =
        let no : true ≡ false = sym (rw (a, b) refl) ∙ unused in cc

-- Each name has the same state and holder among the workspaces in use.
standing_in_use : (name : List ℕ) (ws : List Workspace) → Rise ws → standing_at name (in_use ws) ≡ standing_at name ws
standing_in_use name ws rise =
    ap stands (found_in_use name ws rise) ∙ by_found (find (is_of name) ws)
  where
    stands : Option Workspace → Standing
    stands o = option_map_or (λ (w : Workspace). w.standing) o (standing_of [])

    by_found : (o : Option Workspace) → stands (if_in_use o) ≡ stands o
    by_found None = refl
    by_found (Some w) = elim (is_in_use w.standing) as (λ u. is_in_use w.standing ≡ u → stands (cond u (Some w) None) ≡ w.standing) [
      | true ↦ λ used. refl
      | false ↦ λ unused. sym (unused_is_empty w.standing unused)
    ] refl

-- A name has a workspace in use exactly if it has one, and is in use.
known_in_use : (name : List ℕ) (ws : List Workspace) → Rise ws
    → is_some (find (is_of name) (in_use ws)) ≡ (is_some (find (is_of name) ws) && is_in_use (standing_at name ws))
known_in_use name ws rise = ap is_some (found_in_use name ws rise) ∙ by_found (find (is_of name) ws)
  where
    by_found : (o : Option Workspace) → is_some (if_in_use o)
        ≡ (is_some o && is_in_use (option_map_or (λ (w : Workspace). w.standing) o (standing_of [])))
    by_found None = refl
    by_found (Some w) = elim (is_in_use w.standing) as (λ u. is_some (cond u (Some w) None) ≡ u) [
      | true ↦ refl
      | false ↦ refl
    ]

-- A base with the rows of the workspaces in use, at the journal's position, is the compacted
-- journal.
compacted : (j : Journal) (base : BaseValue) (ws : List Workspace) → AreWorkspacesOf j ws → IsBase base
    → base.rows ≡ map row_of (in_use ws) → base.position ≡ position_of j → IsCompacted j (opened base)
compacted j base ws are is rows at = record {
  position = omega (arith, at);
  entries = refl;
  names = λ name. sym (base_known base (in_use ws) is (sym rows) name) ∙ known_in_use name ws are.rise
      ∙ ap (λ b. b && is_in_use (standing_at name ws)) (are.names name)
      ∙ ap (λ s. list_any (bytes_eq name) (names_of j) && is_in_use s) (are.standings name);
  standings = λ name. sym (base_standing base (in_use ws) is (sym rows) name) ∙ standing_in_use name ws are.rise ∙ are.standings name;
}

-- The journal of the new table is the compacted journal of the old one.
pub compacted_table : (j now : Journal) (base : BaseValue) (entries : List EntryValue) (position : ℕ) (ws shown copies used : List Workspace)
    → AreWorkspacesOf j ws → IsBase base → base ≡ record { position = position; rows = map row_of used } → used ≡ copies
    → map row_of copies ≡ map row_of (in_use shown) → shown ≡ ws → position ≡ position_of j → j ≡ now → entries ≡ []
    → IsCompacted now (record { base = base; entries = entries })
compacted_table j now base entries position ws shown copies used are is same is_used rows is_shown at is_now none =
    let own : base.rows ≡ map row_of (in_use ws) =
    ap (λ (b : BaseValue). b.rows) same ∙ ap (map row_of) is_used ∙ rows ∙ ap (λ t. map row_of (in_use t)) is_shown in
    let whole = compacted j base ws are is own (ap (λ (b : BaseValue). b.position) same ∙ at) in
    subst (λ (k : Journal). IsCompacted k (record { base = base; entries = entries })) is_now
    (subst (λ (t : List EntryValue). IsCompacted j (record { base = base; entries = t })) (sym none) whole)

-- A test of elements holds for the elements that another test keeps.
each_kept : (P : List ℕ → Type 0) (test : List ℕ → Bool) (names : List (List ℕ)) → AllByRecursion P names
    → AllByRecursion P (filter test names)
each_kept P test [] all = tt
each_kept P test (name ∷ names) all =
    elim (test name) as (λ b. AllByRecursion P (cond b (name ∷ filter test names) (filter test names))) [
      | true ↦ (all.0, each_kept P test names all.1)
      | false ↦ each_kept P test names all.1
    ]

-- Of names that differ, those that a test keeps differ.
distinct_kept : (test : List ℕ → Bool) (names : List (List ℕ)) → IsDistinct bytes_eq names → IsDistinct bytes_eq (filter test names)
distinct_kept test [] distinct = distinct
distinct_kept test (name ∷ names) distinct =
    let later = distinct_kept test names (IsDistinct-tail bytes_eq name names distinct) in
    let apart = each_kept (λ y. bytes_eq name y ≡ false) test names (IsDistinct-head bytes_eq name names distinct) in
    elim (test name) as (λ b. IsDistinct bytes_eq (cond b (name ∷ filter test names) (filter test names))) [
      | true ↦ IsDistinct-cons bytes_eq name (filter test names) apart later
      | false ↦ later
    ]

-- A journal that keeps the names that pass a test has as many names as pass it.
names_left : (keeps : List ℕ → Bool) (old new : Journal) → IsRebasedWith keeps old new
    → length (names_of new) ≡ length (filter keeps (names_of old))
names_left keeps old new is =
    length-from_same_keys nat_list_eq_equiv (names_of new) (filter keeps (names_of old)) (names_distinct new)
    (distinct_kept keeps (names_of old) (names_distinct old))
    (λ q. is.names q ∙ sym (is_member-filter nat_list_eq_equiv keeps q (λ x same. ap keeps (bytes_same q x same)) (names_of old)))

-- A base with the journal's kept names has a row for each of them.
pub rows_left : (keeps : List ℕ → Bool) (old : Journal) (base : BaseValue) (entries : List EntryValue) → IsBase base → entries ≡ []
    → IsRebasedWith keeps old (record { base = base; entries = entries })
    → length base.rows ≡ length (filter keeps (names_of old))
rows_left keeps old base entries is none rebased =
    sym (length-map base.rows (λ (row : RowValue). row.name)) ∙ ap length (sym (base_names base is))
    ∙ ap (λ (t : List EntryValue). length (names_of (record { base = base; entries = t }))) (sym none)
    ∙ names_left keeps old (record { base = base; entries = entries }) rebased

-- A refusal by the rules follows from the state and the holder.
pub refused_by_standing : (h other : History) (act : ActValue) → standing_of h ≡ standing_of other
    → verdict_refusal h act ≡ verdict_refusal other act
refused_by_standing h other act same = ap (λ (s : Standing). refusal_of s.holder (verdict_over s act)) same

-- Appending a copy of the next element, if a test keeps it, extends the kept prefix.
pub grown_kept : {A B : Type 0} (f : A → B) (test : A → Bool) (items new all : List A) (i : ℕ) (x own : A) → new ≡ items ++ x ∷ []
    → map f items ≡ map f (filter test (take i all)) → f x ≡ f own → own ≡ get_or all i own → i < length all → test own ≡ true
    → map f new ≡ map f (filter test (take (i + 1) all))
grown_kept f test items new all i x own is so same at within kept =
    let more = filter_more test all i own within ∙ ap (λ y. filter test (take i all) ++ cond (test y) (y ∷ []) []) (sym at)
    ∙ ap (λ b. filter test (take i all) ++ cond b (own ∷ []) []) kept in
    ap (map f) is ∙ map-append f items (x ∷ []) ∙ ap (λ t. t ++ f x ∷ []) so ∙ ap (λ y. map f (filter test (take i all)) ++ y ∷ []) same
    ∙ sym (map-append f (filter test (take i all)) (own ∷ [])) ∙ ap (map f) (sym more)

-- An element that a test doesn't keep leaves the kept prefix as it is.
pub grown_past : {A : Type 0} (test : A → Bool) (all : List A) (i : ℕ) (own : A) → own ≡ get_or all i own → i < length all
    → test own ≡ false → filter test (take (i + 1) all) ≡ filter test (take i all)
grown_past test all i own at within fails =
    filter_more test all i own within ∙ ap (λ y. filter test (take i all) ++ cond (test y) (y ∷ []) []) (sym at)
    ∙ ap (λ b. filter test (take i all) ++ cond b (own ∷ []) []) fails ∙ append-nil (filter test (take i all))

-- Copies of the workspaces in use have names that rise.
pub copies_rise : (ws copies : List Workspace) → map row_of copies ≡ map row_of (in_use ws) → Rise ws → Rise copies
copies_rise ws copies same rise =
    subst (IsStrictlySortedBy (slice_cmp nat_cmp)) (names_of_rows (in_use ws) ∙ ap (map (λ (row : RowValue). row.name)) (sym same)
    ∙ sym (names_of_rows copies)) (rise_in_use ws rise)

-- There are at most as many copies of the workspaces in use as workspaces.
pub copies_few : (ws copies : List Workspace) → map row_of copies ≡ map row_of (in_use ws) → length copies ≤ length ws
copies_few ws copies same =
    omega (arith, few_in_use ws, length-map copies row_of, length-map (in_use ws) row_of, ap length same)
