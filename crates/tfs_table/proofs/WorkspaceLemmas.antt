-- Lemmas about specs/Workspaces.antt: the effect of changing or adding one workspace.
use Rattle.std.proofs.Common.{◌≡◌, ℕ, zero, suc, ◌+◌, List, [], ◌∷◌, ◌++◌, length, take, drop, map, get_or, set, Bool, true, false, cond}
use Rattle.std.proofs.Common.{◌||◌}
use Rattle.std.proofs.Common.{Result, Ok, Err, is_ok, IsOk, Option, Some, None, is_some, option_map}
use Rattle.std.proofs.Common.{refl, sym, ◌∙◌, ap, subst, arith, length-append, All}
use Rattle.std.specs.List.{AllByRecursion, find, insert, list_any, slice_get}
use Rattle.std.specs.List.Sorted.{IsStrictlySortedBy}
use Rattle.std.specs.Option.{option_map_or, option_or}
use Rattle.std.specs.Ordering.{nat_cmp}
use Rattle.std.specs.declared.cmp.Ordering.TheVariants.{Less}
use Rattle.std.specs.Cmp.Lexicographic.{slice_cmp}
use Rattle.std.specs.Str.{bytes_eq}
use Rattle.std.specs.Arc.{arc_value}
use Rattle.std.proofs.Math.Seq.{get_or-append_seam, set-append_seam, take-append_seam, drop-append_seam}
use Rattle.std.proofs.lemmas.List.{map-append}
use Rattle.std.proofs.lemmas.List.Elements.{All-append, All-cons, All-set, All-take, All-drop, All-head, All-tail, All-weaker}
use Rattle.std.proofs.lemmas.List.Folds.{find-append, list_any-append}
use Rattle.std.proofs.lemmas.Slice.Eq.{bytes_eq-Decides}
use Rattle.tfs_rules.specs.Act.{ActValue}
use Rattle.tfs_rules.specs.History.{History, Standing, state_of, standing_of}
use Rattle.tfs_records.specs.Journal.{Journal, EntryValue, acts_of, names_of, with_entry}
use Rattle.tfs_records.proofs.NameLemmas.{bytes_same, bytes_eq_sym}
use Rattle.tfs_records.proofs.JournalLemmas.{acts_of_own, acts_of_other, names_kept, names_added}
use Rattle.tfs_table.specs.declared.workspace.Workspace.{Workspace}
use Rattle.tfs_table.specs.Workspaces.{is_of, standing_at, AreWorkspacesOf, HasVersion, IsPlaceOf, IsGapFor, IsNumbered}

-- If no earlier element passes a test and this one does, the test finds it.
pub find_behind : {A : Type 0} (test : A → Bool) (before after : List A) (x : A) → find test before ≡ None → test x ≡ true
    → find test (before ++ x ∷ after) ≡ Some x
find_behind test before after x none passes = find-append test before (x ∷ after) ∙ rw (none, passes) refl

-- An element that fails a test does not affect what the test finds.
pub find_past : {A : Type 0} (test : A → Bool) (before after : List A) (x : A) → test x ≡ false
    → find test (before ++ x ∷ after) ≡ find test (before ++ after)
find_past test before after x fails = find-append test before (x ∷ after) ∙ rw fails (sym (find-append test before after))

-- Replacing an element by another does not affect a test that both fail.
pub find_alike : {A : Type 0} (test : A → Bool) (before after : List A) (x y : A) → test x ≡ false → test y ≡ false
    → find test (before ++ x ∷ after) ≡ find test (before ++ y ∷ after)
find_alike test before after x y p q = find_past test before after x p ∙ sym (find_past test before after y q)

-- The element at the index `place` is x.
pub get_at : {A : Type 0} (xs before after : List A) (x other : A) (place : ℕ) → xs ≡ before ++ x ∷ after → length before ≡ place
    → get_or xs place other ≡ x
get_at xs before after x other place parts at =
    ap (λ t. get_or t place other) parts ∙ ap (λ n. get_or (before ++ x ∷ after) n other) (sym at) ∙ get_or-append_seam before x after other

-- Setting the element at the index `place` replaces x.
pub set_at : {A : Type 0} (xs before after : List A) (x new : A) (place : ℕ) → xs ≡ before ++ x ∷ after → length before ≡ place
    → set xs place new ≡ before ++ new ∷ after
set_at xs before after x new place parts at =
    ap (λ t. set t place new) parts ∙ ap (λ n. set (before ++ x ∷ after) n new) (sym at) ∙ set-append_seam before x after new

-- Inserting an element at the index `place` puts it between the two parts.
pub insert_at : {A : Type 0} (xs before after : List A) (new : A) (place : ℕ) → xs ≡ before ++ after → length before ≡ place
    → insert xs place new ≡ before ++ new ∷ after
insert_at xs before after new place parts at =
    ap (λ t. insert t place new) parts ∙ ap (λ n. insert (before ++ after) n new) (sym at)
    ∙ ap (λ t. t ++ new ∷ drop (length before) (before ++ after)) (take-append_seam before after)
    ∙ ap (λ t. before ++ new ∷ t) (drop-append_seam before after)

-- After an entry, its name has the state and holder after its act, and every other name is
-- unchanged.
standings_more : (j : Journal) (ws new : List Workspace) (name : List ℕ) (act : ActValue) (after : Standing) → AreWorkspacesOf j ws
    → standing_at name new ≡ after → after ≡ standing_of (acts_of name j ++ act ∷ [])
    → ((other : List ℕ) → bytes_eq name other ≡ false → standing_at other new ≡ standing_at other ws)
    → (other : List ℕ) → standing_at other new ≡ standing_of (acts_of other (with_entry j (record { name = name; act = act })))
standings_more j ws new name act after are own is others other =
    let entry : EntryValue = record { name = name; act = act } in
    elim (bytes_eq name other) as (λ b. bytes_eq name other ≡ b → standing_at other new ≡ standing_of
    (acts_of other (with_entry j (record { name = name; act = act })))) [
      | true ↦ λ t.
          let same : name ≡ other = bytes_same name other t in
          let acts : acts_of other (with_entry j (record { name = name; act = act }))
          ≡ acts_of other j ++ act ∷ [] = acts_of_own other j entry t in
          ap (λ n. standing_at n new) (sym same) ∙ own ∙ is ∙ ap (λ n. standing_of (acts_of n j ++ act ∷ [])) same
          ∙ ap standing_of (sym acts)
      | false ↦ λ t.
          let acts : acts_of other (with_entry j (record { name = name; act = act })) ≡ acts_of other j = acts_of_other other j entry t in
          others other t ∙ are.standings other ∙ ap standing_of (sym acts)
    ] refl

-- The names of workspaces.
abbrev pub names_at : List Workspace → List (List ℕ)
names_at ws = map (λ (w : Workspace). w.name) ws

-- The state and holder of a name are those of the workspace at its index.
pub standing_at_place : (name : List ℕ) (ws : List Workspace) (place : ℕ) (other : Workspace) → IsPlaceOf name ws place
    → standing_at name ws ≡ (get_or ws place other).standing
standing_at_place name ws place other p =
    ap (standing_at name) p.parts
    ∙ ap (λ o. option_map_or (λ (w : Workspace). w.standing) o (standing_of [])) (find_behind (is_of name) p.before p.after p.own p.first
    p.named)
    ∙ ap (λ (w : Workspace). w.standing) (sym (get_at ws p.before p.after p.own other place p.parts p.at))

-- A name without a workspace has the state and holder of an empty history.
pub standing_absent : (name : List ℕ) (ws : List Workspace) → find (is_of name) ws ≡ None → standing_at name ws ≡ standing_of []
standing_absent name ws none = ap (λ o. option_map_or (λ (w : Workspace). w.standing) o (standing_of [])) none

-- If the list has a workspace with the name, the search by name finds one.
pub found_there : (name : List ℕ) (before after : List Workspace) (own : Workspace) → find (is_of name) before ≡ None
    → is_of name own ≡ true
    → is_some (find (is_of name) (before ++ own ∷ after)) ≡ true
found_there name before after own none named = ap is_some (find_behind (is_of name) before after own none named)

-- Whether a name has a workspace depends only on the names of the workspaces.
found_alike : (name : List ℕ) (before after : List Workspace) (own other : Workspace) → own.name ≡ other.name
    → is_some (find (is_of name) (before ++ own ∷ after)) ≡ is_some (find (is_of name) (before ++ other ∷ after))
found_alike name [] after own other same =
    ap (λ n. is_some (cond (bytes_eq n name) (Some own) (find (is_of name) after))) same ∙ by_test (bytes_eq other.name name)
  where
    by_test : (b : Bool) → is_some (cond b (Some own) (find (is_of name) after)) ≡ is_some (cond b (Some other) (find (is_of name) after))
    by_test true = refl
    by_test false = refl
found_alike name (first ∷ before) after own other same =
    elim (is_of name first) as (λ b. is_some (cond b (Some first) (find (is_of name) (before ++ own ∷ after)))
    ≡ is_some (cond b (Some first) (find (is_of name) (before ++ other ∷ after)))) [
      | true ↦ refl
      | false ↦ found_alike name before after own other same
    ]

-- If an element with a property is replaced by another one with it, all elements keep the property.
all_swapped : {A : Type 0} (P : A → Type 0) (before after : List A) (x y : A) → (P x → P y) → All P (before ++ x ∷ after)
    → All P (before ++ y ∷ after)
all_swapped P [] after x y f all = All-cons P y after (f (All-head P x after all)) (All-tail P x after all)
all_swapped P (first ∷ before) after x y f all =
    All-cons P first (before ++ y ∷ after) (All-head P first (before ++ x ∷ after) all)
    (all_swapped P before after x y f (All-tail P first (before ++ x ∷ after) all))

-- If an element with a property is inserted, all elements keep the property.
all_added : {A : Type 0} (P : A → Type 0) (before after : List A) (x : A) → P x → All P (before ++ after) → All P (before ++ x ∷ after)
all_added P [] after x has all = All-cons P x after has all
all_added P (first ∷ before) after x has all =
    All-cons P first (before ++ x ∷ after) (All-head P first (before ++ after) all)
    (all_added P before after x has (All-tail P first (before ++ after) all))

-- Appending names keeps the numbers of the earlier names.
number_kept : (names more : List (List ℕ)) (k : ℕ) (name : List ℕ) → slice_get names k ≡ Some name → slice_get (names ++ more) k ≡ Some name
number_kept [] more k name e = cc
number_kept (first ∷ names) more zero name e = e
number_kept (first ∷ names) more (suc k) name e = number_kept names more k name e

-- The number of a name is the count of the names before it.
pub number_behind : (names more : List (List ℕ)) (name : List ℕ) → slice_get (names ++ name ∷ more) (length names) ≡ Some name
number_behind [] more name = refl
number_behind (first ∷ names) more name = number_behind names more name

-- After the workspace of a name is changed by an act, the workspaces are those of the journal with
-- the entry.
pub workspace_changed : (name : List ℕ) (act : ActValue) (ws : List Workspace) (place : ℕ) (own new : Workspace) → IsPlaceOf name ws place
    → own ≡ get_or ws place own → new.name ≡ own.name → new.number ≡ own.number
    → ((h : History) → own.standing ≡ standing_of h → new.standing ≡ standing_of (h ++ act ∷ []))
    → (j : Journal) → AreWorkspacesOf j ws → AreWorkspacesOf (with_entry j (record { name = name; act = act })) (set ws place new)
workspace_changed name act ws place own new p is same same_number commits j are =
    let here : own ≡ p.own = is ∙ get_at ws p.before p.after p.own own place p.parts p.at in
    let names : new.name ≡ p.own.name = same ∙ ap (λ (w : Workspace). w.name) here in
    let named : is_of name new ≡ true = ap (λ n. bytes_eq n name) names ∙ p.named in
    let is_name : p.own.name ≡ name = bytes_same p.own.name name p.named in
    let there : list_any (bytes_eq name) (names_of j) ≡ true =
    sym (are.names name) ∙ ap (λ t. is_some (find (is_of name) t)) p.parts ∙ found_there name p.before p.after p.own p.first p.named in
    let kept = names_kept j (record { name = name; act = act }) there in
    let number : new.number ≡ p.own.number = same_number ∙ ap (λ (w : Workspace). w.number) here in
    let stands : own.standing ≡ standing_of (acts_of name j) =
    ap (λ (w : Workspace). w.standing) is ∙ sym (standing_at_place name ws place own p) ∙ are.standings name in
    let sames : names_at (p.before ++ new ∷ p.after) ≡ names_at ws =
    map-append (λ (w : Workspace). w.name) p.before (new ∷ p.after) ∙ ap (λ n. names_at p.before ++ n ∷ names_at p.after) names
    ∙ sym (map-append (λ (w : Workspace). w.name) p.before (p.own ∷ p.after)) ∙ ap names_at (sym p.parts) in
    subst (AreWorkspacesOf (with_entry j (record { name = name; act = act }))) (sym (set_at ws p.before p.after p.own new place p.parts
    p.at)) (record {
      standings = standings_more j ws (p.before ++ new ∷ p.after) name act new.standing are
          (ap (λ o. option_map_or (λ (w : Workspace). w.standing) o (standing_of [])) (find_behind (is_of name) p.before p.after new
          p.first named))
          (commits (acts_of name j) stands)
          (λ other differs.
          let past : is_of other p.own ≡ false = ap (λ n. bytes_eq n other) is_name ∙ differs in
          let past_new : is_of other new ≡ false = ap (λ n. bytes_eq n other) names ∙ past in
          ap (λ o. option_map_or (λ (w : Workspace). w.standing) o (standing_of [])) (find_alike (is_of other) p.before p.after new p.own
          past_new past)
          ∙ ap (standing_at other) (sym p.parts));
      names = λ other. found_alike other p.before p.after new p.own names ∙ ap (λ t. is_some (find (is_of other) t)) (sym p.parts)
          ∙ are.names other
          ∙ ap (list_any (bytes_eq other)) (sym kept);
      count = length-append p.before (new ∷ p.after) ∙ sym (length-append p.before (p.own ∷ p.after)) ∙ ap length (sym p.parts) ∙ are.count
          ∙ ap length (sym kept);
      rise = subst (IsStrictlySortedBy (slice_cmp nat_cmp)) (sym sames) are.rise;
      numbers = subst (λ ns. All (IsNumbered ns) (p.before ++ new ∷ p.after)) (sym kept)
          (all_swapped (IsNumbered (names_of j)) p.before p.after p.own new
          (λ e. ap (slice_get (names_of j)) number ∙ e ∙ ap (λ n. Some n) (sym names)) (subst (All (IsNumbered (names_of j))) p.parts
          are.numbers));
    })

-- If all elements of two parts and a name have a property, all elements with the name between the
-- parts have it.
all_between : (P : List ℕ → Type 0) (before after : List (List ℕ)) (name : List ℕ) → AllByRecursion P (before ++ after) → P name
    → AllByRecursion P (before ++ name ∷ after)
all_between P [] after name all here = (here, all)
all_between P (first ∷ before) after name all here = (all.0, all_between P before after name all.1 here)

-- Inserting a name between the smaller and the greater names keeps the names sorted.
rise_with : (before after : List (List ℕ)) (name : List ℕ) → IsStrictlySortedBy (slice_cmp nat_cmp) (before ++ after)
    → AllByRecursion (λ other. slice_cmp nat_cmp other name ≡ Less) before
    → AllByRecursion (λ other. slice_cmp nat_cmp name other ≡ Less) after
    → IsStrictlySortedBy (slice_cmp nat_cmp) (before ++ name ∷ after)
unfolding IsStrictlySortedBy
rise_with [] after name rise below above = (above, rise)
rise_with (first ∷ before) after name rise below above = (
  all_between (λ other. slice_cmp nat_cmp first other
      ≡ Less) before after name rise.0 below.0,
  rise_with before after name rise.1 below.1 above,
)

-- After a workspace is inserted, a name has a workspace if it had one or if the new one has the
-- name.
found_apart : (other : List ℕ) (before after : List Workspace) (new : Workspace)
    → is_some (find (is_of other) (before ++ new ∷ after)) ≡ (is_some (find (is_of other) (before ++ after)) || bytes_eq other new.name)
found_apart other [] after new = rw (bytes_eq_sym new.name other) (by_test (bytes_eq other new.name) (find (is_of other) after))
  where
    by_test : (b : Bool) (o : Option Workspace) → is_some (cond b (Some new) o) ≡ (is_some o || b)
    by_test true None = refl
    by_test true (Some w) = refl
    by_test false None = refl
    by_test false (Some w) = refl
found_apart other (first ∷ before) after new =
    elim (is_of other first) as (λ b. is_some (cond b (Some first) (find (is_of other) (before ++ new ∷ after)))
    ≡ (is_some (cond b (Some first) (find (is_of other) (before ++ after))) || bytes_eq other new.name)) [
      | true ↦ refl
      | false ↦ found_apart other before after new
    ]

-- After a workspace is added for a new name, the workspaces are those of the journal with the
-- entry.
pub workspace_added : (name : List ℕ) (act : ActValue) (ws : List Workspace) (place : ℕ) (new : Workspace) → IsGapFor name ws place
    → new.name ≡ name → new.number ≡ length ws
    → ((h : History) → standing_of [] ≡ standing_of h → new.standing ≡ standing_of (h ++ act ∷ []))
    → (j : Journal) → AreWorkspacesOf j ws → AreWorkspacesOf (with_entry j (record { name = name; act = act })) (insert ws place new)
workspace_added name act ws place new p same number commits j are =
    let entry : EntryValue = record { name = name; act = act } in
    let named : is_of name new ≡ true = (bytes_eq-Decides new.name name).1 same in
    let none_before : find (is_of name) p.before ≡ None = before_none (find (is_of name) p.before) (find (is_of name) p.after)
    (sym (find-append (is_of name) p.before p.after) ∙ ap (find (is_of name)) (sym p.parts) ∙ p.absent) in
    let none : list_any (bytes_eq name) (names_of j) ≡ false = sym (are.names name) ∙ ap is_some p.absent in
    let added = names_added j entry none in
    let stands : standing_of [] ≡ standing_of (acts_of name j) = sym (standing_absent name ws p.absent) ∙ are.standings name in
    subst (AreWorkspacesOf (with_entry j entry)) (sym (insert_at ws p.before p.after new place p.parts p.at)) (record {
      standings = standings_more j ws (p.before ++ new ∷ p.after) name act new.standing are
          (ap (λ o. option_map_or (λ (w : Workspace). w.standing) o (standing_of [])) (find_behind (is_of name) p.before p.after new
          none_before named))
          (commits (acts_of name j) stands)
          (λ other differs.
          ap (λ o. option_map_or (λ (w : Workspace). w.standing) o (standing_of []))
          (find_past (is_of other) p.before p.after new (ap (λ n. bytes_eq n other) same ∙ differs))
          ∙ ap (standing_at other) (sym p.parts));
      names = λ other. found_apart other p.before p.after new
          ∙ ap (λ t. is_some (find (is_of other) t) || bytes_eq other new.name) (sym p.parts)
          ∙ ap (λ t. t || bytes_eq other new.name) (are.names other)
          ∙ ap (λ n. list_any (bytes_eq other) (names_of j) || bytes_eq other n) same
          ∙ ap (λ t. list_any (bytes_eq other) (names_of j) || t) (sym (or_false (bytes_eq other name)))
          ∙ sym (list_any-append (bytes_eq other) (names_of j) (name ∷ []))
          ∙ ap (list_any (bytes_eq other)) (sym added);
      count = one_more p.before p.after (ap length p.parts) are.count (ap length added ∙ length-append (names_of j) (name ∷ []));
      rise = subst (IsStrictlySortedBy (slice_cmp nat_cmp)) (sym (map-append (λ (w : Workspace). w.name) p.before (new ∷ p.after)))
          (subst (λ n. IsStrictlySortedBy (slice_cmp nat_cmp) (names_at p.before ++ n ∷ names_at p.after)) (sym same)
          (rise_with (names_at p.before) (names_at p.after) name
          (subst (IsStrictlySortedBy (slice_cmp nat_cmp)) (ap names_at p.parts ∙ map-append (λ
          (w : Workspace). w.name) p.before p.after) are.rise) p.below p.above));
      numbers = subst (λ ns. All (IsNumbered ns) (p.before ++ new ∷ p.after)) (sym added)
          (all_added (IsNumbered (names_of j ++ name ∷ [])) p.before p.after new
          (ap (slice_get (names_of j ++ name ∷ [])) (number ∙ are.count) ∙ number_behind (names_of j) [] name ∙ ap (λ n. Some n) (sym same))
          (All-weaker (IsNumbered (names_of j)) (IsNumbered (names_of j ++ name ∷ []))
          (λ (w : Workspace) e. number_kept (names_of j) (name ∷ []) w.number w.name e) (p.before ++ p.after)
          (subst (All (IsNumbered (names_of j))) p.parts are.numbers)));
    })
  where
    or_false : (b : Bool) → (b || false) ≡ b
    or_false true = refl
    or_false false = refl

    one_more : (before after : List Workspace) → length ws ≡ length (before ++ after) → length ws ≡ length (names_of j)
        → length (names_of (with_entry j (record { name = name; act = act }))) ≡ length (names_of j) + 1
        → length (before ++ new ∷ after) ≡ length (names_of (with_entry j (record { name = name; act = act })))
    one_more before after a b c =
        let d = length-append before after in
        let e = length-append before (new ∷ after) in
        omega arith

    before_none : (a b : Option Workspace) → option_or a b ≡ None → a ≡ None
    before_none None b e = refl
    before_none (Some w) b e = cc

-- Changing a workspace keeps the versions right if the new one has its version.
pub versions_changed : (ws : List Workspace) (place : ℕ) (new : Workspace) → HasVersion new → All HasVersion ws
    → All HasVersion (set ws place new)
versions_changed ws place new has all = All-set HasVersion ws place new has all

-- Inserting a workspace keeps the versions right if it has its version.
pub versions_added : (ws : List Workspace) (place : ℕ) (new : Workspace) → HasVersion new → All HasVersion ws
    → All HasVersion (insert ws place new)
versions_added ws place new has all =
    All-append HasVersion (take place ws) (new ∷ drop place ws) (All-take HasVersion place ws all)
    (All-cons HasVersion new (drop place ws) has (All-drop HasVersion place ws all))

-- The version of the name's state after the entry is the version of the changed workspace.
pub own_version : (name : List ℕ) (act : ActValue) (ws : List Workspace) (place : ℕ) (own new : Workspace) → IsPlaceOf name ws place
    → own ≡ get_or ws place own
    → ((h : History) → own.standing ≡ standing_of h → new.standing ≡ standing_of (h ++ act ∷ []))
    → (j : Journal) → AreWorkspacesOf j ws
    → option_map arc_value new.version ≡ state_of (acts_of name (with_entry j (record { name = name; act = act }))) → HasVersion new
own_version name act ws place own new p is commits j are version =
    let stands : own.standing ≡ standing_of (acts_of name j) =
    ap (λ (w : Workspace). w.standing) is ∙ sym (standing_at_place name ws place own p) ∙ are.standings name in
    version ∙ ap state_of (acts_of_own name j (record { name = name; act = act }) ((bytes_eq-Decides name name).1 refl))
    ∙ ap (λ (s : Standing). s.state) (sym (commits (acts_of name j) stands))

-- The version of the name's state after the entry is the version of the added workspace.
pub new_version : (name : List ℕ) (act : ActValue) (ws : List Workspace) (place : ℕ) (new : Workspace) → IsGapFor name ws place
    → ((h : History) → standing_of [] ≡ standing_of h → new.standing ≡ standing_of (h ++ act ∷ []))
    → (j : Journal) → AreWorkspacesOf j ws
    → option_map arc_value new.version ≡ state_of (acts_of name (with_entry j (record { name = name; act = act }))) → HasVersion new
new_version name act ws place new p commits j are version =
    let stands : standing_of [] ≡ standing_of (acts_of name j) = sym (standing_absent name ws p.absent) ∙ are.standings name in
    version ∙ ap state_of (acts_of_own name j (record { name = name; act = act }) ((bytes_eq-Decides name name).1 refl))
    ∙ ap (λ (s : Standing). s.state) (sym (commits (acts_of name j) stands))

-- A successful insertion leaves the list with the element inserted.
pub inserted : {A E : Type 0} (result : Result (Unit {0}) E) (old new added : List A) → new ≡ cond (is_ok result) added old
    → IsOk result → new ≡ added
inserted (Ok done) old new added is ok = is
inserted (Err e) old new added is ok = cc
