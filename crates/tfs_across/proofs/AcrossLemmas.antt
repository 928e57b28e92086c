-- Lemmas about specs/Across.antt.
use Rattle.std.proofs.Common.{◌≡◌, ◌↔◌, ℕ, ◌+◌, ◌<◌, ◌≤◌, Bool, true, false, ◌&&◌, ◌||◌, IsTrue, List, length, Contains, filter, Option, Some, None, ltb, eqb, refl, sym, ap, subst, ◌∙◌, inl, inr, arith}
use Rattle.std.specs.FinSet.{contains}
use Rattle.std.specs.List.{list_any, range_with_len, slice_get}
use Rattle.std.specs.List.Sorted.{IsStrictlyIncreasing}
use Rattle.std.specs.Option.{option_map_or}
use Rattle.std.specs.Str.{bytes_eq}
use Rattle.std.proofs.lemmas.Bool.{cases_lt, lt-ltb, le-ltb, and_from, and_parts, eqb-true, false≢true, false_from_ne_true}
use Rattle.std.proofs.lemmas.List.Folds.{Any-from_list_any, list_any_at}
use Rattle.std.proofs.lemmas.Map.Views.{any-filter_same}
use Rattle.std.proofs.lemmas.Option.{slice_get_within}
use Rattle.std.proofs.lemmas.Slice.Eq.{bytes_eq-Decides}
use Rattle.tfs_planes.specs.Relation.{Relation, Relates}
use Rattle.tfs_planes.specs.Walk.{Joins}
use Rattle.tfs_planes.proofs.BitLemmas.{any_in_range, none_in_range}
use Rattle.tfs_planes.proofs.WalkLemmas.{start_of_joins}
use Rattle.tfs_index.specs.Impact.{IsRisingListOf}
use Rattle.tfs_index.proofs.IndexLemmas.{instance_step}
use Rattle.tfs_index.proofs.LawLemmas.{member_told}
use Rattle.tfs_index.proofs.ReachLemmas.{turned_walk}
use Rattle.tfs_across.specs.Reads.{names_read}
use Rattle.tfs_across.specs.Across.{WorkspaceValue, Reads, HasReaders, is_named, reads}

-- ---- the test of a pair

-- The test for a name decides whether it is one of the names.
listed_told : (name : List ℕ) (names : List (List ℕ)) → (list_any (bytes_eq name) names ≡ true) ↔ Contains names name
listed_told name names = (
  λ is. let one = Any-from_list_any (bytes_eq name) names is in
      let same : one.1 ≡ name = sym ((bytes_eq-Decides name one.1).0 one.4) in
      subst (Contains names) same (one.0, one.2, one.3),
  λ there. list_any_at (bytes_eq name) names there.0 name there.1
      (ap (bytes_eq name) there.2 ∙ (bytes_eq-Decides name name).1 refl),
)

-- The workspace of a number that has one of some names.
named_found : (o : Option WorkspaceValue) (names : List (List ℕ))
    → option_map_or (λ (source : WorkspaceValue). list_any (bytes_eq source.name) names) o false ≡ true
    → (source : WorkspaceValue) × (o ≡ Some source) × Contains names source.name
named_found None names is = absurd (false≢true is)
named_found (Some source) names is = (source, refl, (listed_told source.name names).0 is)

-- The workspace of a number that reads another.
reader_found : (ws : List WorkspaceValue) (o : Option WorkspaceValue) (j : ℕ)
    → option_map_or (λ (reader : WorkspaceValue). is_named ws (names_read reader.document) j) o false ≡ true
    → (reader : WorkspaceValue) × (o ≡ Some reader) × (is_named ws (names_read reader.document) j ≡ true)
reader_found ws None j is = absurd (false≢true is)
reader_found ws (Some reader) j is = (reader, refl, is)

-- The test decides whether a workspace reads another.
pub reads_told : (ws : List WorkspaceValue) (i j : ℕ) → IsTrue (reads ws i j) ↔ Reads ws i j
unfolding reads
reads_told ws i j = (
  λ is.
      let one = reader_found ws (slice_get ws i) j is in
      let other = named_found (slice_get ws j) (names_read one.0.document) one.2 in
      record { reader = one.0; found = one.1; source = other.0; named = other.1; listed = other.2 },
  λ given.
      let names = names_read given.reader.document in
      ap (λ (o : Option WorkspaceValue). option_map_or (λ (reader : WorkspaceValue). is_named ws (names_read reader.document) j) o false) given.found
      ∙ ap (λ (o : Option WorkspaceValue). option_map_or (λ (source : WorkspaceValue). list_any (bytes_eq source.name) names) o false) given.named
      ∙ (listed_told given.source.name names).1 given.listed,
)

-- ---- one step of the loops

-- The workspace of a number has one of some names if and only if its name is one of them.
pub named_at : (ws : List WorkspaceValue) (names : List (List ℕ)) (j : ℕ) (w : WorkspaceValue) → slice_get ws j ≡ Some w
    → is_named ws names j ≡ list_any (bytes_eq w.name) names
named_at ws names j w found =
    ap (λ (o : Option WorkspaceValue). option_map_or (λ (source : WorkspaceValue). list_any (bytes_eq source.name) names) o false) found

-- A workspace reads those that have one of its names.
pub reads_at : (ws : List WorkspaceValue) (i j : ℕ) (w : WorkspaceValue) → slice_get ws i ≡ Some w
    → is_named ws (names_read w.document) j ≡ reads ws i j
unfolding reads
reads_at ws i j w found =
    sym (ap (λ (o : Option WorkspaceValue). option_map_or (λ (reader : WorkspaceValue). is_named ws (names_read reader.document) j) o false) found)

-- A case that may be added as a pair is added to the cases of its row.
pub grown : (found here same before some : Bool)
    → ((found && (here && same)) || (before || (same && some))) ≡ (before || (same && (some || (here && found))))
grown true true true true some = refl
grown true true true false true = refl
grown true true true false false = refl
grown true true false before some = refl
grown true false same true some = refl
grown true false true false true = refl
grown true false true false false = refl
grown true false false false some = refl
grown false here same true some = refl
grown false here true false true = refl
grown false true true false false = refl
grown false false true false false = refl
grown false here false false some = refl

-- One more workspace of those that may have one of the names.
pub named_step : (ws : List WorkspaceValue) (names : List (List ℕ)) (first old new : Relation) (j i v w : ℕ) (found : Bool)
    → found ≡ is_named ws names j
    → contains new.pairs (v, w) ≡ ((found && (eqb v j && eqb w i)) || contains old.pairs (v, w))
    → contains old.pairs (v, w) ≡ (contains first.pairs (v, w) || (eqb w i && (ltb v j && is_named ws names v)))
    → contains new.pairs (v, w) ≡ (contains first.pairs (v, w) || (eqb w i && (ltb v (j + 1) && is_named ws names v)))
named_step ws names first old new j i v w found is now so_far =
    let before = contains first.pairs (v, w) in
    now ∙ ap (λ b. (found && (eqb v j && eqb w i)) || b) so_far
    ∙ grown found (eqb v j) (eqb w i) before (ltb v j && is_named ws names v)
    ∙ ap (λ b. before || (eqb w i && b)) (instance_step v j (is_named ws names v) found (λ e. is ∙ ap (is_named ws names) (sym e)))

-- No workspace from the end on has a name.
pub named_all : (ws : List WorkspaceValue) (names : List (List ℕ)) (n v : ℕ) → n ≡ length ws
    → (ltb v n && is_named ws names v) ≡ is_named ws names v
named_all ws names n v end =
    elim (cases_lt v n) [
      | inl below ↦ ap (λ b. b && is_named ws names v) (lt-ltb v n below)
      | inr past ↦
          let none : is_named ws names v ≡ false = false_from_ne_true (is_named ws names v) (λ yes.
          let one = named_found (slice_get ws v) names yes in
          let within = slice_get_within ws v one.0 one.1 in omega (arith, within, past, end)) in
          ap (λ b. b && is_named ws names v) (le-ltb v n past) ∙ sym none
    ]

-- No workspace from the end on reads one.
pub reads_all : (ws : List WorkspaceValue) (n v w : ℕ) → n ≡ length ws → (ltb w n && reads ws w v) ≡ reads ws w v
reads_all ws n v w end =
    elim (cases_lt w n) [
      | inl below ↦ ap (λ b. b && reads ws w v) (lt-ltb w n below)
      | inr past ↦
          let none : reads ws w v ≡ false = false_from_ne_true (reads ws w v) (λ yes.
          let given = (reads_told ws w v).0 yes in
          let within = slice_get_within ws w given.reader given.found in omega (arith, within, past, end)) in
          ap (λ b. b && reads ws w v) (le-ltb w n past) ∙ sym none
    ]

-- ---- the closed plane

-- The plane relates a workspace to those that read it.
pub direct_told : (ws : List WorkspaceValue) (plane : Relation) → HasReaders ws plane → (j i : ℕ) → Relates plane j i ↔ Reads ws i j
direct_told ws plane has j i = (
  λ is. (reads_told ws i j).0 (sym (has.pairs j i) ∙ is),
  λ given. has.pairs j i ∙ (reads_told ws i j).1 given,
)

-- The closed plane relates a workspace to those from which a walk leads to it.
pub closed_told : (ws : List WorkspaceValue) (old new : Relation) → HasReaders ws old
    → ((i j : ℕ) → Relates new i j ↔ Joins (Relates old) i j) → (j i : ℕ) → Relates new j i ↔ Joins (Reads ws) i j
closed_told ws old new has walks j i = (
  λ is. turned_walk (Relates old) (Reads ws) (λ a b r. (direct_told ws old has a b).0 r) j i ((walks j i).0 is),
  λ walk. (walks j i).1 (turned_walk (Reads ws) (Relates old) (λ a b r. (direct_told ws old has b a).1 r) i j walk),
)

-- ---- lists of numbers

-- The filtered range contains the numbers below the bound that pass the test.
passed_told : (p : ℕ → Bool) (n u : ℕ) → Contains (filter p (range_with_len 0 n)) u ↔ ((u < n) × (p u ≡ true))
passed_told p n u =
    let range = range_with_len 0 n in
    let split : list_any (λ y. eqb y u) (filter p range) ≡ (p u && list_any (λ y. eqb y u) range) =
    any-filter_same (λ y. eqb y u) p (p u) (λ x is. ap p (eqb-true x u is)) range in
    let told = member_told (filter p range) u in (
      λ there.
          let both = and_parts (p u) (list_any (λ y. eqb y u) range) (sym split ∙ told.1 there) in (
            (elim (cases_lt u n) [
              | inl below ↦ below
              | inr past ↦ absurd (false≢true (sym (none_in_range 0 n u (inr (let h : 0 + n ≤ u = omega arith in h))) ∙ both.1))
            ]),
            both.0,
          ),
      λ both. told.0 (split ∙ and_from (p u) (list_any (λ y. eqb y u) range) both.1
          (any_in_range 0 n u (omega arith) (let below = both.0 in omega arith))),
    )

-- A filtered range lists what the test decides, if that is below its bound.
pub listed : (p : ℕ → Bool) (P : ℕ → Type 0) (n : ℕ) (numbers : List ℕ) → IsStrictlyIncreasing numbers → numbers ≡ filter p (range_with_len 0 n)
    → ((u : ℕ) → (p u ≡ true) ↔ P u) → ((u : ℕ) → P u → u < n) → IsRisingListOf P numbers
listed p P n numbers rises are told within = record {
  rises = rises;
  members = λ u. (
    λ there. (told u).0 (((passed_told p n u).0 (subst (λ l. Contains l u) are there)).1),
    λ is. subst (λ l. Contains l u) (sym are) ((passed_told p n u).1 (within u is, (told u).1 is)),
  );
}

-- The number of a reader is below the number of workspaces.
pub reader_within : (ws : List WorkspaceValue) (i j : ℕ) → Reads ws i j → i < length ws
reader_within ws i j given = slice_get_within ws i given.reader given.found

-- The number from which a walk leads is below the number of workspaces.
pub walk_within : (ws : List WorkspaceValue) (i j : ℕ) → Joins (Reads ws) i j → i < length ws
walk_within ws i j walk = let first = start_of_joins (Reads ws) i j walk in reader_within ws i first.0 first.1
