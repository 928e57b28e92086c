-- Lemmas about the relation that the rows of a plane represent.
use Rattle.std.proofs.Common.{◌≡◌, ◌↔◌, ℕ, ◌-◌, ◌*◌, ◌<◌, ◌≤◌, Bool, true, false, ◌||◌, ◌&&◌, eqb, IsTrue, List, [], ◌∷◌, length, take, map}
use Rattle.std.proofs.Common.{replicate, refl, ap, ap₂, sym, ◌∙◌, inl, inr, arith}
use Rattle.std.proofs.lemmas.Bool.{cases_lt, cases_Bool, eqb-true, ne_eqb, false_from_ne_true, false≢true}
use Rattle.std.proofs.lemmas.List.{drop-replicate, take-replicate, take_all, length-replicate}
use Rattle.std.proofs.lemmas.List.Folds.{list_any-append}
use Rattle.std.specs.Cmp.{IsTotalOrder, nat_eq_equiv}
use Rattle.std.specs.Cmp.Lexicographic.{nat_list_cmp_total, texts_ties}
use Rattle.std.specs.FinSet.{contains, insert, empty, same_set, contains-empty, contains-insert, contains-from_list, contains-from_list_nat}
use Rattle.std.specs.FinSet.{IsAntisymmetric, nat_cmp-IsAntisymmetric, slice_cmp-IsAntisymmetric}
use Rattle.std.specs.List.{list_any, flat_map, range_with_len}
use Rattle.std.specs.Ordering.{eq_by_cmp}
use Rattle.tfs_planes.specs.Plane.{row_words, cell_at, pairs_of, relation_of}
use Rattle.tfs_planes.specs.Relation.{Relation, Relates, pair_cmp}
use Rattle.tfs_planes.specs.Row.{bit_at_word, members_of, row_length, IsClearFrom}
use Rattle.tfs_planes.specs.Walk.{Joins}
use Rattle.tfs_planes.proofs.BitLemmas.{contains-row, bit_at_word-zeros, any_in_range, none_in_range}
use Rattle.tfs_planes.proofs.RoundLemmas.{row_of_set_cell}
use Rattle.tfs_planes.proofs.WalkLemmas.{joins_below_from_joins, end_of_chain, joins_map}

-- The order of pairs is total.
pub pair_cmp_total : IsTotalOrder pair_cmp
pair_cmp_total = record {
  antisymm = λ p q. nat_list_cmp_total.antisymm (p.0 ∷ p.1 ∷ []) (q.0 ∷ q.1 ∷ []);
  trans = λ p q r. nat_list_cmp_total.trans (p.0 ∷ p.1 ∷ []) (q.0 ∷ q.1 ∷ []) (r.0 ∷ r.1 ∷ []);
  congr = λ p q r. nat_list_cmp_total.congr (p.0 ∷ p.1 ∷ []) (q.0 ∷ q.1 ∷ []) (r.0 ∷ r.1 ∷ []);
}

-- Two lists of two numbers are equal only if their elements are.
same_parts : (a b i j : ℕ) → a ∷ b ∷ [] ≡ i ∷ j ∷ [] → (a ≡ i) × (b ≡ j)
same_parts a b i j e = (cc, cc)

-- Pairs that compare as equal are equal.
pub pair_cmp-IsAntisymmetric : IsAntisymmetric pair_cmp
pair_cmp-IsAntisymmetric p q tie =
    let e = same_parts p.0 p.1 q.0 q.1 (slice_cmp-IsAntisymmetric nat_cmp-IsAntisymmetric (p.0 ∷ p.1 ∷ []) (q.0 ∷ q.1 ∷ []) tie) in
    ap₂ (λ (a b : ℕ). (a, b)) e.0 e.1

-- A conjunction with true is its other operand.
and-true : (b : Bool) → (b && true) ≡ b
and-true true = refl
and-true false = refl

-- A conjunction with false is false.
and-false : (b : Bool) → (b && false) ≡ false
and-false true = refl
and-false false = refl

-- Two pairs compare as equal if both their numbers are equal.
pub same_pair : (a b i j : ℕ) → eq_by_cmp pair_cmp (a, b) (i, j) ≡ (eqb a i && eqb b j)
same_pair a b i j = sym (texts_ties (a ∷ b ∷ []) (i ∷ j ∷ [])) ∙ ap (λ t. eqb a i && t) (and-true (eqb b j))

-- Two pairs compare as equal if both their numbers are equal, with the operands swapped.
same_pair_turned : (a b i j : ℕ) → eq_by_cmp pair_cmp (a, b) (i, j) ≡ (eqb i a && eqb j b)
same_pair_turned a b i j = same_pair a b i j ∙ ap₂ ◌&&◌ (nat_eq_equiv.symm a i) (nat_eq_equiv.symm b j)

-- Conjunction distributes over disjunction.
and-or : (a b c : Bool) → ((a && b) || (a && c)) ≡ (a && (b || c))
and-or true b c = refl
and-or false b c = refl

-- A pair is in a row of pairs if its first number is the row's and its second number is in the
-- list.
any_row : (a b i : ℕ) (js : List ℕ) → list_any (eq_by_cmp pair_cmp (a, b)) (map (λ j. (i, j)) js) ≡ (eqb i a && list_any (λ j. eqb j b) js)
any_row a b i [] = sym (and-false (eqb i a))
any_row a b i (j ∷ js) = ap₂ ◌||◌ (same_pair_turned a b i j) (any_row a b i js) ∙ and-or (eqb i a) (eqb j b) (list_any (λ j. eqb j b) js)

-- A pair is in the pairs of all rows if its first number is in the list and its second is in that
-- row.
any_pair : (a b : ℕ) (f : ℕ → List ℕ) (ns : List ℕ) → list_any (eq_by_cmp pair_cmp (a, b)) (flat_map (λ i. map (λ j. (i, j)) (f i)) ns) ≡ list_any
    (λ i. eqb i a && list_any (λ j. eqb j b) (f i)) ns
any_pair a b f [] = refl
any_pair a b f (i ∷ ns) =
    list_any-append (eq_by_cmp pair_cmp (a, b)) (map (λ j. (i, j)) (f i)) (flat_map (λ k. map (λ j. (k, j)) (f k)) ns)
    ∙ ap₂ ◌||◌ (any_row a b i (f i)) (any_pair a b f ns)

-- A disjunction absorbs a conjunction with its first operand.
absorbs : (a b : Bool) → (a || (b && a)) ≡ a
absorbs true b = refl
absorbs false b = and-false b

-- A test at one number holds for some element if the number is in the list and the test holds for
-- it.
any_at : (p : ℕ → Bool) (a : ℕ) (ns : List ℕ) → list_any (λ i. eqb i a && p i) ns ≡ (list_any (λ i. eqb i a) ns && p a)
any_at p a [] = refl
any_at p a (i ∷ ns) =
    ap (λ r. (eqb i a && p i) || r) (any_at p a ns)
    ∙ elim (cases_Bool (eqb i a)) [
      | inl same ↦
          ap (λ t. (t && p i) || (list_any (λ k. eqb k a) ns && p a)) same
          ∙ ap (λ k. p k || (list_any (λ k. eqb k a) ns && p a)) (eqb-true i a same)
          ∙ absorbs (p a) (list_any (λ k. eqb k a) ns)
          ∙ ap (λ t. (t || list_any (λ k. eqb k a) ns) && p a) (sym same)
      | inr other ↦
          ap (λ t. (t && p i) || (list_any (λ k. eqb k a) ns && p a)) other
          ∙ ap (λ t. (t || list_any (λ k. eqb k a) ns) && p a) (sym other)
    ]

-- No bit of a row beyond the last is set.
cell_past : (s n : ℕ) (words : List ℕ) (i j : ℕ) → length words ≡ n * s → n ≤ i → cell_at s words i j ≡ false
cell_past s n words i j long past = false_from_ne_true (cell_at s words i j) (λ is. let below = row_of_set_cell s n words i j long is in omega arith)

-- A number is among the members of a clear row if its bit is set.
any_member : (n : ℕ) (row : List ℕ) → IsClearFrom n row → (b : ℕ) → list_any (λ j. eqb j b) (members_of n row) ≡ bit_at_word row b
any_member n row clear b = sym (contains-from_list_nat (members_of n row) b) ∙ contains-row n row clear b

-- Tests that agree at every number agree on a list.
any_agree : (p q : ℕ → Bool) → ((i : ℕ) → p i ≡ q i) → (ns : List ℕ) → list_any p ns ≡ list_any q ns
any_agree p q same [] = refl
any_agree p q same (i ∷ ns) = ap₂ ◌||◌ (same i) (any_agree p q same ns)

-- A pair is in the relation of a plane if its bit is set.
pub contains-plane : (n : ℕ) (words : List ℕ) → length words ≡ n * row_length n → ((i : ℕ) → IsClearFrom n (row_words (row_length n) words i)) →
    (a b : ℕ) → contains (relation_of n words).pairs (a, b) ≡ cell_at (row_length n) words a b
unfolding pairs_of cell_at
contains-plane n words long clear a b =
    let s = row_length n in
    contains-from_list pair_cmp_total (pairs_of n words) (a, b)
    ∙ any_pair a b (λ i. members_of n (row_words s words i)) (range_with_len 0 n)
    ∙ any_agree (λ i. eqb i a && list_any (λ j. eqb j b) (members_of n (row_words s words i))) (λ i. eqb i a && cell_at s words i b)
    (λ i. ap (λ t. eqb i a && t) (any_member n (row_words s words i) (clear i) b)) (range_with_len 0 n)
    ∙ any_at (λ i. cell_at s words i b) a (range_with_len 0 n)
    ∙ elim (cases_lt a n) [
      | inl within ↦ ap (λ t. t && cell_at s words a b) (any_in_range 0 n a (omega arith) (omega arith))
      | inr past ↦ ap (λ t. t && cell_at s words a b) (none_in_range 0 n a (inr (omega arith))) ∙ sym (cell_past s n words a b long past)
    ]

-- Each row of a list of zeros is a list of zeros.
row_of_zeros : (s m i : ℕ) → (k : ℕ) × (row_words s (replicate m 0) i ≡ replicate k 0)
unfolding row_words
row_of_zeros s m i =
    elim (cases_lt (m - i * s) s) [
      | inl short ↦ (
        m - i * s,
        ap (take s) (drop-replicate (i * s) m 0)
            ∙ take_all s (replicate (m - i * s) 0) (omega (arith, length-replicate {A = ℕ} (m - i * s) 0)),
      )
      | inr long ↦ (s, ap (take s) (drop-replicate (i * s) m 0) ∙ take-replicate s (m - i * s) 0 long)
    ]

-- Each row of a list of zeros is clear.
pub zeros_clear : (s m n i : ℕ) → IsClearFrom n (row_words s (replicate m 0) i)
zeros_clear s m n i j past = let row = row_of_zeros s m i in ap (λ r. bit_at_word r j) row.1 ∙ bit_at_word-zeros row.0 j

-- The relation of a plane of zeros is empty.
pub empty-plane : (n m : ℕ) → m ≡ n * row_length n → (relation_of n (replicate m 0)).pairs ≡ empty
unfolding cell_at
empty-plane n m e =
    same_set pair_cmp_total pair_cmp-IsAntisymmetric _ _
    (λ q. contains-plane n (replicate m 0) (length-replicate {A = ℕ} m 0 ∙ e) (λ i. zeros_clear (row_length n) m n i) q.0 q.1
    ∙ zeros_clear (row_length n) m 0 q.0 q.1 (omega arith) ∙ sym (contains-empty pair_cmp q))

-- Rows stay clear when a bit below the size is set.
pub clear_with_cell : (s n i j : ℕ) (words also : List ℕ) → ((a : ℕ) → IsClearFrom n (row_words s words a)) → j < n →
    ((a b : ℕ) → cell_at s also a b ≡ ((eqb a i && eqb b j) || cell_at s words a b)) → (a : ℕ) → IsClearFrom n (row_words s also a)
unfolding cell_at
clear_with_cell s n i j words also clear within cells a b past =
    cells a b ∙ ap₂ (λ t r. (eqb a i && t) || r) (ne_eqb b j (λ e. omega arith)) (clear a b past) ∙ ap (λ t. t || false) (and-false (eqb a i))

-- Setting a bit inserts its pair into the relation.
pub insert-plane : (n i j : ℕ) (words also : List ℕ) → length words ≡ n * row_length n → length also ≡ n * row_length n →
    ((a : ℕ) → IsClearFrom n (row_words (row_length n) words a)) → j < n →
    ((a b : ℕ) → cell_at (row_length n) also a b ≡ ((eqb a i && eqb b j) || cell_at (row_length n) words a b)) →
    (relation_of n also).pairs ≡ insert (relation_of n words).pairs (i, j)
insert-plane n i j words also long too clear within cells =
    same_set pair_cmp_total pair_cmp-IsAntisymmetric _ _
    (λ q. contains-plane n also too (clear_with_cell (row_length n) n i j words also clear within cells) q.0 q.1 ∙ cells q.0 q.1
    ∙ ap₂ ◌||◌ (sym (same_pair q.0 q.1 i j)) (sym (contains-plane n words long clear q.0 q.1)) ∙ sym (contains-insert pair_cmp_total _ (i, j) q))

-- The closure keeps rows clear, because a walk ends below the size.
pub clear_closed : (s n : ℕ) (words also : List ℕ) → length words ≡ n * s → ((a : ℕ) → IsClearFrom n (row_words s words a)) →
    ((i j : ℕ) → IsTrue (cell_at s also i j) ↔ Joins (λ a b. IsTrue (cell_at s words a b)) i j) → (a : ℕ) → IsClearFrom n (row_words s also a)
unfolding cell_at
clear_closed s n words also long clear walks a b past =
    let R : ℕ → ℕ → Type 0 = λ x y. IsTrue (cell_at s words x y) in
    false_from_ne_true (cell_at s also a b)
    (λ is. let walk = joins_below_from_joins R n a b (λ x y. row_of_set_cell s n words x y long) ((walks a b).0 is) in
    let last = end_of_chain R a b walk.0 walk.1 in
    false≢true (sym (clear last.0 b past) ∙ last.1))

-- The relation of the closed plane relates exactly the numbers that a walk joins.
pub closed-plane : (n : ℕ) (words also : List ℕ) (r : Relation) → relation_of n words ≡ r → length words ≡ n * row_length n →
    length also ≡ n * row_length n → ((a : ℕ) → IsClearFrom n (row_words (row_length n) words a)) →
    ((i j : ℕ) → IsTrue (cell_at (row_length n) also i j) ↔ Joins (λ a b. IsTrue (cell_at (row_length n) words a b)) i j) → (i j : ℕ) →
    Relates (relation_of n also) i j ↔ Joins (Relates r) i j
closed-plane n words also r view long too clear walks i j =
    let s = row_length n in
    let R : ℕ → ℕ → Type 0 = λ x y. IsTrue (cell_at s words x y) in
    let is : (a b : ℕ) → contains r.pairs (a, b) ≡ cell_at s words a b = λ a b. ap (λ (t : Relation). contains t.pairs (a, b)) (sym view)
    ∙ contains-plane n words long clear a b in
    let at = contains-plane n also too (clear_closed s n words also long clear walks) i j in (
      λ related. joins_map R (Relates r) (λ a b h. is a b ∙ h) i j ((walks i j).0 (sym at ∙ related)),
      λ walk. at ∙ (walks i j).1 (joins_map (Relates r) R (λ a b h. sym (is a b) ∙ h) i j walk),
    )
