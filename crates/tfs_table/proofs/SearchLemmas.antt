-- Lemmas about the binary search for a name among workspaces.
use Rattle.std.proofs.Common.{◌≡◌, ℕ, ◌+◌, ◌<◌, ◌≤◌, List, [], ◌∷◌, length, take, drop, map, get_or, Bool, true, false, All}
use Rattle.std.proofs.Common.{suc, nat_lt, ltb-true, ltb-false, None, refl, sym, ◌∙◌, ap, arith, take-append-drop, length-drop}
use Rattle.std.specs.List.{AllByRecursion, find}
use Rattle.std.specs.List.Sorted.{IsPartitionPoint}
use Rattle.std.specs.Ordering.{nat_cmp, is_eq, ordering_reverse}
use Rattle.std.specs.declared.cmp.Ordering.{Ordering}
use Rattle.std.specs.declared.cmp.Ordering.TheVariants.{Less, Equal, Greater}
use Rattle.std.specs.Cmp.Lexicographic.{slice_cmp}
use Rattle.std.proofs.Math.ListN.{get_or-map}
use Rattle.std.proofs.Math.Seq.{split_at}
use Rattle.std.proofs.lemmas.Cmp.{nat_list_cmp_total}
use Rattle.std.proofs.lemmas.List.{get_or-take, get_or-drop, get_or_default, length-take-le, length-map}
use Rattle.std.proofs.lemmas.List.Elements.{All-from_get_or, All-head, All-tail, All-weaker}
use Rattle.std.proofs.lemmas.Map.Keys.{Less-from_sorted}
use Rattle.std.proofs.lemmas.Map.Text.{is_eq-slice_cmp}
use Rattle.tfs_records.proofs.NameLemmas.{bytes_same}
use Rattle.tfs_table.specs.declared.workspace.Workspace.{Workspace}
use Rattle.tfs_table.specs.Workspaces.{is_of, Rise, IsPlaceOf, IsGapFor}

-- The order of a workspace's name relative to a name.
abbrev pub order_to : List ℕ → Workspace → Ordering
order_to name w = slice_cmp nat_cmp w.name name

-- If each element fails a test, the test finds none.
find_none : {A : Type 0} (test : A → Bool) (xs : List A) → All (λ x. test x ≡ false) xs → find test xs ≡ None
find_none test [] fails = refl
find_none test (x ∷ xs) fails =
    rw (All-head (λ y. test y ≡ false) x xs fails) (find_none test xs (All-tail (λ y. test y ≡ false) x xs fails))

-- A property of each workspace's name holds for each element of the list of names.
each_name : (P : List ℕ → Type 0) (ws : List Workspace) → All (λ w. P w.name) ws → AllByRecursion P (map (λ (w : Workspace). w.name) ws)
each_name P [] all = tt
each_name P (w ∷ ws) all = (
  All-head (λ (v : Workspace). P v.name) w ws all,
  each_name P ws (All-tail (λ (v : Workspace). P v.name) w ws
      all),
)

-- If the names don't compare as equal, the workspace has another name.
apart : (name : List ℕ) (w : Workspace) (o : Ordering) → order_to name w ≡ o → is_eq o ≡ false → is_of name w ≡ false
apart name w o is other = sym (is_eq-slice_cmp w.name name) ∙ ap is_eq is ∙ other

-- The name of an earlier workspace is less than the name of a later one.
rises_to : (ws : List Workspace) (i k : ℕ) (d : Workspace) → Rise ws → i < k → k < length ws
    → slice_cmp nat_cmp (get_or ws i d).name (get_or ws k d).name ≡ Less
rises_to ws i k d rise first within =
    let name_of : Workspace → List ℕ = λ w. w.name in
    ap (λ n. slice_cmp nat_cmp (get_or ws i d).name n) (sym (get_or-map name_of ws k d))
    ∙ ap (λ n. slice_cmp nat_cmp n (get_or (map name_of ws) k d.name)) (sym (get_or-map name_of ws i d))
    ∙ Less-from_sorted (slice_cmp nat_cmp) (map name_of ws) i k d.name rise first (omega (arith, length-map ws name_of))

-- The workspaces before the one with the name have other names.
names_before : (ws : List Workspace) (i : ℕ) (d : Workspace) (name : List ℕ) → Rise ws → i < length ws → (get_or ws i d).name ≡ name
    → All (λ w. is_of name w ≡ false) (take i ws)
names_before ws i d name rise within named =
    All-from_get_or (λ w. is_of name w ≡ false) (take i ws) d (λ k below.
    let first : k < i = omega (arith, length-take-le i ws (omega arith)) in
    let less : order_to name (get_or ws k d) ≡ Less =
    ap (λ n. slice_cmp nat_cmp (get_or ws k d).name n) (sym named) ∙ rises_to ws k i d rise first within in
    ap (is_of name) (get_or-take i ws k d first) ∙ apart name (get_or ws k d) Less less refl)

-- If the name at an index compares as equal, the name's workspace has this index.
pub place_found : (ws : List Workspace) (i : ℕ) (d : Workspace) (name : List ℕ) → Rise ws → i < length ws
    → order_to name (get_or ws i d) ≡ Equal
    → IsPlaceOf name ws i
place_found ws i d name rise within equal =
    let named : is_of name (get_or ws i d) ≡ true = sym (is_eq-slice_cmp (get_or ws i d).name name) ∙ ap is_eq equal in
    record {
      before = take i ws;
      own = get_or ws i d;
      after = drop (suc i) ws;
      parts = split_at ws i d within;
      at = length-take-le i ws (omega arith);
      named = named;
      first = find_none (is_of name) (take i ws) (names_before ws i d name rise within (bytes_same (get_or ws i d).name name named));
    }

-- If a workspace's name is greater than a name, the name is less than it.
above : (name : List ℕ) (w : Workspace) → order_to name w ≡ Greater → slice_cmp nat_cmp name w.name ≡ Less
above name w greater = nat_list_cmp_total.antisymm name w.name ∙ ap ordering_reverse greater

-- If all earlier names are less and all later names are greater, the index is the gap for the name.
pub gap_found : (ws : List Workspace) (i : ℕ) (name : List ℕ) → i ≤ length ws
    → IsPartitionPoint (λ w. order_to name w ≡ Less) (λ w. order_to name w ≡ Greater) ws i → IsGapFor name ws i
gap_found [] i name within parts = record {
  before = [];
  after = [];
  parts = refl;
  at = omega arith;
  absent = refl;
  below = tt;
  above = tt;
}
gap_found (w ∷ rest) i name within parts =
    let ws = w ∷ rest in
    let before : All (λ v. order_to name v ≡ Less) (take i ws) =
    All-from_get_or (λ v. order_to name v ≡ Less) (take i ws) w (λ k below.
    let first : k < i = omega (arith, length-take-le i ws within) in
    ap (order_to name) (get_or-take i ws k w first) ∙ parts.0 k w (omega arith) first) in
    let after : All (λ v. order_to name v ≡ Greater) (drop i ws) =
    All-from_get_or (λ v. order_to name v ≡ Greater) (drop i ws) w (λ k below.
    ap (order_to name) (get_or-drop i ws k w) ∙ parts.1 (i + k) w (omega arith) (omega (arith, length-drop i ws))) in
    record {
      before = take i ws;
      after = drop i ws;
      parts = sym (take-append-drop i ws);
      at = length-take-le i ws within;
      absent = find_none (is_of name) ws (All-from_get_or (λ v. is_of name v ≡ false) ws w (λ k below. either k below));
      below = each_name (λ other. slice_cmp nat_cmp other name ≡ Less) (take i ws) before;
      above = each_name (λ other. slice_cmp nat_cmp name other ≡ Less) (drop i ws) (turned (drop i ws) after);
    }
  where
    either : (k : ℕ) → k < length (w ∷ rest) → is_of name (get_or (w ∷ rest) k w) ≡ false
    either k below = elim (nat_lt k i) as (λ t. nat_lt k i ≡ t → is_of name (get_or (w ∷ rest) k w) ≡ false) [
      | true ↦ λ first. apart name (get_or (w ∷ rest) k w) Less (parts.0 k w (omega arith) (ltb-true k i first)) refl
      | false ↦ λ later. apart name (get_or (w ∷ rest) k w) Greater (parts.1 k w (ltb-false k i later) below) refl
    ] refl

    turned : (vs : List Workspace) → All (λ v. order_to name v ≡ Greater) vs → All (λ v. slice_cmp nat_cmp name v.name ≡ Less) vs
    turned vs all = All-weaker (λ v. order_to name v ≡ Greater) (λ v. slice_cmp nat_cmp name v.name ≡ Less) (λ v g. above name v g) vs all

-- If a workspace's name is less than the name, so is every earlier one.
pub below_too : (ws : List Workspace) (name : List ℕ) (i : ℕ) (e : Workspace) → Rise ws → i < length ws → e ≡ get_or ws i e
    → order_to name e ≡ Less
    → (k : ℕ) (d : Workspace) → k < i + 1 → order_to name (get_or ws k d) ≡ Less
below_too ws name i e rise within is less k d first =
    let here : get_or ws i d ≡ e = get_or_default ws i d e within ∙ sym is in
    let at : order_to name (get_or ws i d) ≡ Less = ap (order_to name) here ∙ less in
    elim (nat_lt k i) as (λ t. nat_lt k i ≡ t → order_to name (get_or ws k d) ≡ Less) [
      | true ↦ λ before. nat_list_cmp_total.trans (get_or ws k d).name (get_or ws i d).name name (rises_to ws k i d rise (ltb-true k i
          before) within) at
      | false ↦ λ later. let same : k ≡ i = omega (arith, ltb-false k i later) in ap (λ n. order_to name (get_or ws n d)) same ∙ at
    ] refl

-- If a workspace's name is greater than the name, so is every later one.
pub above_too : (ws : List Workspace) (name : List ℕ) (i : ℕ) (e : Workspace) → Rise ws → i < length ws → e ≡ get_or ws i e
    → order_to name e ≡ Greater
    → (k : ℕ) (d : Workspace) → i ≤ k → k < length ws → order_to name (get_or ws k d) ≡ Greater
above_too ws name i e rise within is greater k d behind inside =
    let here : get_or ws i d ≡ e = get_or_default ws i d e within ∙ sym is in
    let at : order_to name (get_or ws i d) ≡ Greater = ap (order_to name) here ∙ greater in
    elim (nat_lt i k) as (λ t. nat_lt i k ≡ t → order_to name (get_or ws k d) ≡ Greater) [
      | true ↦ λ later.
          let below = nat_list_cmp_total.trans name (get_or ws i d).name (get_or ws k d).name (above name (get_or ws i d) at)
          (rises_to ws i k d rise (ltb-true i k later) inside) in
          nat_list_cmp_total.antisymm (get_or ws k d).name name ∙ ap ordering_reverse below
      | false ↦ λ same. let is_same : k ≡ i = omega (arith, ltb-false i k same) in ap (λ n. order_to name (get_or ws n d)) is_same ∙ at
    ] refl

-- The invariant of the search: the name can only be between `low` and `high`.
pub record Narrows (ws : List Workspace) (name : List ℕ) (low high : ℕ) : Type 0 where
  pub order : low ≤ high
  pub within : high ≤ length ws
  pub below : (k : ℕ) (d : Workspace) → k < low → order_to name (get_or ws k d) ≡ Less
  pub above : (k : ℕ) (d : Workspace) → high ≤ k → k < length ws → order_to name (get_or ws k d) ≡ Greater

-- If the middle name is less, the search continues after it.
pub narrows_up : (ws : List Workspace) (name text found : List ℕ) (low high middle : ℕ) (e : Workspace) (o : Ordering) → Rise ws
    → Narrows ws name low high
    → low ≤ middle → middle < high → e ≡ get_or ws middle e → text ≡ name → found ≡ (get_or ws middle e).name
    → o ≡ slice_cmp nat_cmp found text → o ≡ Less
    → Narrows ws name (middle + 1) high
narrows_up ws name text found low high middle e o rise so from to is is_name is_found compared less =
    let within = so.within in
    let at : order_to name e ≡ Less =
    ap (order_to name) is ∙ ap (λ n. slice_cmp nat_cmp n name) (sym is_found) ∙ ap (slice_cmp nat_cmp found) (sym is_name)
    ∙ sym compared ∙ less in
    record {
      order = omega arith;
      within = within;
      below = below_too ws name middle e rise (omega arith) is at;
      above = so.above;
    }

-- If the middle name is greater, the search continues before it.
pub narrows_down : (ws : List Workspace) (name text found : List ℕ) (low high middle : ℕ) (e : Workspace) (o : Ordering) → Rise ws
    → Narrows ws name low high
    → low ≤ middle → middle < high → e ≡ get_or ws middle e → text ≡ name → found ≡ (get_or ws middle e).name
    → o ≡ slice_cmp nat_cmp found text → o ≡ Greater
    → Narrows ws name low middle
narrows_down ws name text found low high middle e o rise so from to is is_name is_found compared greater =
    let within = so.within in
    let at : order_to name e ≡ Greater =
    ap (order_to name) is ∙ ap (λ n. slice_cmp nat_cmp n name) (sym is_found) ∙ ap (slice_cmp nat_cmp found) (sym is_name)
    ∙ sym compared ∙ greater in
    record {
      order = from;
      within = omega arith;
      below = so.below;
      above = above_too ws name middle e rise (omega arith) is at;
    }

-- If the middle name is equal, the search has found the workspace.
pub narrows_here : (ws : List Workspace) (name text found : List ℕ) (low high middle : ℕ) (e : Workspace) (o : Ordering) → Rise ws
    → Narrows ws name low high
    → middle < high → e ≡ get_or ws middle e → text ≡ name → found ≡ (get_or ws middle e).name → o ≡ slice_cmp nat_cmp found text
    → o ≡ Equal
    → IsPlaceOf name ws middle
narrows_here ws name text found low high middle e o rise so to is is_name is_found compared equal =
    let within = so.within in
    let at : order_to name e ≡ Equal =
    ap (order_to name) is ∙ ap (λ n. slice_cmp nat_cmp n name) (sym is_found) ∙ ap (slice_cmp nat_cmp found) (sym is_name)
    ∙ sym compared ∙ equal in
    place_found ws middle e name rise (omega arith) (ap (order_to name) (sym is) ∙ at)

-- If no index remains, the name has no workspace, and `low` is its gap.
pub narrows_out : (ws : List Workspace) (name : List ℕ) (low high : ℕ) → Narrows ws name low high → high ≤ low → IsGapFor name ws low
narrows_out ws name low high so out =
    let order = so.order in
    let within = so.within in
    gap_found ws low name (omega arith) ((λ k d from to. so.below k d to), (λ k d from to. so.above k d (omega arith) to))
