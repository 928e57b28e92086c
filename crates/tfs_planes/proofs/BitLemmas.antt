-- Lemmas about single bits of words, and about the set that a row of words represents.
use Rattle.std.proofs.Common.{◌≡◌, ◌≢◌, ℕ, ◌+◌, ◌-◌, ◌*◌, ◌/◌, ◌%◌, ◌^◌, ◌<◌, ◌≤◌, suc, zero, min, max, Bool, true, false, ◌||◌, ◌&&◌, eqb, List, []}
use Rattle.std.proofs.Common.{◌∷◌, length, get_or, set, bit_and, bit_or, replicate, filter, cond, ◌++◌, w64, refl, IsTrue, drop, ap, ap₂, sym}
use Rattle.std.proofs.Common.{◌∙◌, inl, inr, ◌⊎◌, arith}
use Rattle.std.proofs.lemmas.Bool.{cases_eq, cases_lt, eqb-true, eq-eqb, ne_eqb, or_left, false≢true}
use Rattle.std.proofs.lemmas.List.{get_or-set_same, get_or-set_other, get_or-take, get_or-drop, get_or-replicate, get_or_past, length-replicate}
use Rattle.std.proofs.lemmas.List.{map-id, append-nil}
use Rattle.std.proofs.lemmas.List.FromFn.{get_or-range_with_len, length-range_with_len, filter_of_map_range_with_len_more}
use Rattle.std.proofs.lemmas.List.Kept.{IsStrictlyIncreasing-filter}
use Rattle.std.proofs.lemmas.List.Elements.{All-from_get_or, filter_agree}
use Rattle.std.proofs.lemmas.List.Folds.{list_any_at, list_any_none}
use Rattle.std.proofs.lemmas.Map.Views.{any-filter_same}
use Rattle.std.proofs.lemmas.Nat.Bits.{bit_at-zero, bit_at_and, bit_at_or, bit_at-lt, bit_at_set_same, bit_at_set_other, bit_at_clear_same, bit_at_clear_other}
use Rattle.std.specs.Cmp.{nat_cmp_total, unsigned_tied}
use Rattle.std.specs.FinSet.{contains, insert, union, intersection, empty, same_set, contains-empty, contains-insert, contains-union}
use Rattle.std.specs.FinSet.{contains-intersection, contains-from_list_nat, nat_cmp-IsAntisymmetric}
use Rattle.std.proofs.Math.Nat.{pow-succ'}
use Rattle.std.proofs.lemmas.Nat.{leading_top, div_below, le-div, pow_pos}
use Rattle.std.proofs.lemmas.Simd.{length-chunk}
use Rattle.std.specs.Int.{bit_at, bit_not, leading_zeros}
use Rattle.std.specs.List.{list_any, range_with_len}
use Rattle.std.specs.List.Sorted.{IsStrictlyIncreasing}
use Rattle.std.specs.Ordering.{nat_cmp}
use Rattle.std.specs.Simd.Lanes.{zip2, chunk}
use Rattle.tfs_planes.specs.Row.{bit_at_word, members_of, rising_members, number_set, IsClearFrom}

-- A bit is in an or if it is in one of the operands.
or_test : (x y : ℕ) → x < 2 → y < 2 → eqb (max x y) 1 ≡ (eqb x 1 || eqb y 1)
or_test zero zero below also = refl
or_test zero (suc zero) below also = refl
or_test (suc zero) zero below also = refl
or_test (suc zero) (suc zero) below also = refl
or_test (suc (suc x)) y below also = absurd (omega arith)
or_test x (suc (suc y)) below also = absurd (omega arith)

-- A bit is in an and if it is in both operands.
and_test : (x y : ℕ) → x < 2 → y < 2 → eqb (min x y) 1 ≡ (eqb x 1 && eqb y 1)
and_test zero zero below also = refl
and_test zero (suc zero) below also = refl
and_test (suc zero) zero below also = refl
and_test (suc zero) (suc zero) below also = refl
and_test (suc (suc x)) y below also = absurd (omega arith)
and_test x (suc (suc y)) below also = absurd (omega arith)

-- The combination of two lists has the default 0 at every index, also beyond the end of both.
get_or-zip2_zero : (f : ℕ → ℕ → ℕ) → f 0 0 ≡ 0 → (xs ys : List ℕ) (k : ℕ) → length xs ≡ length ys →
    get_or (zip2 f xs ys) k 0 ≡ f (get_or xs k 0) (get_or ys k 0)
get_or-zip2_zero f none [] [] k same = sym none
get_or-zip2_zero f none [] (y ∷ ys) k same = absurd (omega arith)
get_or-zip2_zero f none (x ∷ xs) [] k same = absurd (omega arith)
get_or-zip2_zero f none (x ∷ xs) (y ∷ ys) zero same = refl
get_or-zip2_zero f none (x ∷ xs) (y ∷ ys) (suc k) same = get_or-zip2_zero f none xs ys k (omega arith)

-- A bit of a union is set if it is set in one of the lists.
pub bit_at_word-union : (xs ys : List ℕ) (i : ℕ) → length xs ≡ length ys → bit_at_word (zip2 bit_or xs ys) i ≡ (bit_at_word xs i || bit_at_word ys i)
unfolding bit_at_word
bit_at_word-union xs ys i same =
    let x = get_or xs (i / 64) 0 in
    let y = get_or ys (i / 64) 0 in
    ap (λ w. eqb (bit_at w (i % 64)) 1) (get_or-zip2_zero bit_or refl xs ys (i / 64) same)
    ∙ ap (λ b. eqb b 1) (bit_at_or x y (i % 64))
    ∙ or_test (bit_at x (i % 64)) (bit_at y (i % 64)) (bit_at-lt x (i % 64)) (bit_at-lt y (i % 64))

-- A bit of a meet is set if it is set in both lists.
pub bit_at_word-meet : (xs ys : List ℕ) (i : ℕ) → length xs ≡ length ys → bit_at_word (zip2 bit_and xs ys) i ≡ (bit_at_word xs i && bit_at_word ys i)
unfolding bit_at_word
bit_at_word-meet xs ys i same =
    let x = get_or xs (i / 64) 0 in
    let y = get_or ys (i / 64) 0 in
    ap (λ w. eqb (bit_at w (i % 64)) 1) (get_or-zip2_zero bit_and refl xs ys (i / 64) same)
    ∙ ap (λ b. eqb b 1) (bit_at_and x y (i % 64))
    ∙ and_test (bit_at x (i % 64)) (bit_at y (i % 64)) (bit_at-lt x (i % 64)) (bit_at-lt y (i % 64))

-- The list with bit i set.
abbrev pub with_bit : List ℕ → ℕ → List ℕ
with_bit words i = set words (i / 64) (bit_or (get_or words (i / 64) 0) (1 * 2 ^ (i % 64) % 2 ^ 64))

-- Bit i of the list with bit i set is set, and every other bit is unchanged.
pub bit_at_word-with_bit : (words : List ℕ) (i j : ℕ) → i < 64 * length words → bit_at_word (with_bit words i) j ≡ (eqb j i || bit_at_word words j)
unfolding bit_at_word
bit_at_word-with_bit words i j within =
    let word = get_or words (i / 64) 0 in
    let mixed = bit_or word (1 * 2 ^ (i % 64) % 2 ^ 64) in
    elim (cases_eq (j / 64) (i / 64)) [
      | inl same ↦
          let at_word : get_or (set words (i / 64) mixed) (j / 64) 0 ≡ mixed =
          ap (λ k. get_or (set words (i / 64) mixed) k 0) same ∙ get_or-set_same words (i / 64) mixed 0 (omega arith) in
          elim (cases_eq (j % 64) (i % 64)) [
            | inl place ↦
                let itself : j ≡ i = omega arith in
                ap (λ w. eqb (bit_at w (j % 64)) 1) at_word
                ∙ ap (λ k. eqb (bit_at mixed k) 1) place
                ∙ ap (λ b. eqb b 1) (bit_at_set_same w64 word (i % 64) (omega arith))
                ∙ sym (or_left (eqb j i) _ (eq-eqb j i itself))
            | inr other ↦
                let apart : j ≢ i = λ e. other (ap (λ k. k % 64) e) in
                ap (λ w. eqb (bit_at w (j % 64)) 1) at_word
                ∙ ap (λ b. eqb b 1) (bit_at_set_other w64 word (i % 64) (omega arith) (j % 64) other)
                ∙ ap (λ k. eqb (bit_at (get_or words k 0) (j % 64)) 1) (sym same)
                ∙ ap (λ b. b || bit_at_word words j) (sym (ne_eqb j i apart))
          ]
      | inr other ↦
          let apart : j ≢ i = λ e. other (ap (λ k. k / 64) e) in
          ap (λ w. eqb (bit_at w (j % 64)) 1) (get_or-set_other words (i / 64) (j / 64) mixed 0 other)
          ∙ ap (λ b. b || bit_at_word words j) (sym (ne_eqb j i apart))
    ]

-- The list with bit i cleared.
abbrev pub without_bit : List ℕ → ℕ → List ℕ
without_bit words i = set words (i / 64) (bit_and (get_or words (i / 64) 0) (bit_not w64 (1 * 2 ^ (i % 64) % 2 ^ 64)))

-- Bit i of the list with bit i cleared isn't set.
pub bit_cleared : (words : List ℕ) (i : ℕ) → i < 64 * length words → bit_at_word (without_bit words i) i ≡ false
unfolding bit_at_word
bit_cleared words i within =
    let word = get_or words (i / 64) 0 in
    ap (λ w. eqb (bit_at w (i % 64)) 1) (get_or-set_same words (i / 64) _ 0 (omega arith))
    ∙ ap (λ b. eqb b 1) (bit_at_clear_same w64 word (i % 64) (omega arith))

-- Every other bit of the list with bit i cleared is unchanged.
pub bit_uncleared : (words : List ℕ) (i j : ℕ) → i < 64 * length words → j ≢ i →
    bit_at_word (without_bit words i) j ≡ bit_at_word words j
unfolding bit_at_word
bit_uncleared words i j within apart =
    let word = get_or words (i / 64) 0 in
    elim (cases_eq (j / 64) (i / 64)) [
      | inl same ↦
          let place : j % 64 ≢ i % 64 = λ e. apart (omega arith) in
          ap (λ k. eqb (bit_at (get_or (without_bit words i) k 0) (j % 64)) 1) same
          ∙ ap (λ w. eqb (bit_at w (j % 64)) 1) (get_or-set_same words (i / 64) _ 0 (omega arith))
          ∙ ap (λ b. eqb b 1) (bit_at_clear_other w64 word (i % 64) (omega arith) (j % 64) (omega arith) place)
          ∙ ap (λ k. eqb (bit_at (get_or words k 0) (j % 64)) 1) (sym same)
      | inr other ↦ ap (λ w. eqb (bit_at w (j % 64)) 1) (get_or-set_other words (i / 64) (j / 64) _ 0 other)
    ]

-- Lists with equal words have equal bits.
pub bit_at_word-same : (xs ys : List ℕ) (j : ℕ) → length xs ≡ length ys → ((k : ℕ) → k < length xs → get_or xs k 0 ≡ get_or ys k 0) →
    bit_at_word xs j ≡ bit_at_word ys j
unfolding bit_at_word
bit_at_word-same xs ys j long same = ap (λ w. eqb (bit_at w (j % 64)) 1) (elim (cases_lt (j / 64) (length xs)) [
  | inl below ↦ same (j / 64) below
  | inr past ↦ get_or_past xs (j / 64) 0 past ∙ sym (get_or_past ys (j / 64) 0 (omega (arith, long)))
])

-- No bit of a list of zeros is set.
pub bit_at_word-zeros : (n i : ℕ) → bit_at_word (replicate n 0) i ≡ false
unfolding bit_at_word
bit_at_word-zeros n i =
    elim (cases_lt (i / 64) n) [
      | inl within ↦ ap (λ w. eqb (bit_at w (i % 64)) 1) (get_or-replicate n (i / 64) 0 0 within) ∙ ap (λ b. eqb b 1) (bit_at-zero (i % 64))
      | inr past ↦ ap (λ w. eqb (bit_at w (i % 64)) 1) (get_or_past (replicate n 0) (i / 64) 0 (omega (arith, length-replicate {A = ℕ} n 0)))
          ∙ ap (λ b. eqb b 1) (bit_at-zero (i % 64))
    ]

-- No bit beyond the words is set.
pub bit_at_word-past : (words : List ℕ) → IsClearFrom (64 * length words) words
unfolding bit_at_word
bit_at_word-past words i past = ap (λ w. eqb (bit_at w (i % 64)) 1) (get_or_past words (i / 64) 0 (omega arith)) ∙ ap (λ b. eqb b 1) (bit_at-zero (i % 64))

-- A set bit has an index within the words.
pub set_within : (words : List ℕ) (i : ℕ) → IsTrue (bit_at_word words i) → i < 64 * length words
set_within words i is =
    elim (cases_lt i (64 * length words)) [
      | inl within ↦ within
      | inr past ↦ absurd (false≢true (sym (bit_at_word-past words i past) ∙ is))
    ]

-- Bit k of a word is bit 64 * word + k of the list.
pub bit_of_word : (word k : ℕ) (words : List ℕ) → k < 64 → bit_at_word words (64 * word + k) ≡ eqb (bit_at (get_or words word 0) k) 1
unfolding bit_at_word
bit_of_word word k words below =
    let place : (64 * word + k) / 64 ≡ word = omega arith in
    let rest : (64 * word + k) % 64 ≡ k = omega arith in
    ap₂ (λ w j. eqb (bit_at (get_or words w 0) j) 1) place rest

-- The highest bit of a nonzero word is set.
pub highest_set : (word : ℕ) → 0 < word → word < 2 ^ 64 → bit_at word (63 - leading_zeros w64 word) ≡ 1
highest_set word some fits =
    let top = leading_top 64 word some fits in
    let j = top.0 in
    let place : 63 - leading_zeros w64 word ≡ j = omega (arith, top.1) in
    let unit : 0 < 2 ^ j = pow_pos j in
    let high : word < 2 * 2 ^ j = omega (arith, top.3, pow-succ' 2 j) in
    let whole : word / 2 ^ j ≡ 1 = omega (arith, le-div 1 word (2 ^ j) unit (omega (arith, top.2)), div_below word (2 ^ j) 2 unit high) in
    ap (bit_at word) place ∙ ap (λ q. q % 2) whole

-- A bit of a chunk is the bit of the list at the chunk's offset.
bit_at_word-chunk : (at n i : ℕ) (words : List ℕ) → i < 64 * n → bit_at_word (chunk at n words) i ≡ bit_at_word words (64 * at + i)
unfolding bit_at_word
bit_at_word-chunk at n i words within =
    let place : at + i / 64 ≡ (64 * at + i) / 64 = omega arith in
    let rest : i % 64 ≡ (64 * at + i) % 64 = omega arith in
    ap (λ w. eqb (bit_at w (i % 64)) 1) (get_or-take n (drop at words) (i / 64) 0 (omega arith) ∙ get_or-drop at words (i / 64) 0)
    ∙ ap₂ (λ w j. eqb (bit_at (get_or words w 0) j) 1) place rest

-- If a union with a chunk of xs leaves a chunk of ys unchanged, each set bit of the first is set in
-- the second.
pub covered_bit : (at : ℕ) (xs ys : List ℕ) → at + 8 ≤ length xs → at + 8 ≤ length ys → zip2 bit_or (chunk at 8 xs) (chunk at 8 ys) ≡ chunk at 8 ys →
    (j : ℕ) → 64 * at ≤ j → j < 64 * (at + 8) → IsTrue (bit_at_word xs j) → IsTrue (bit_at_word ys j)
covered_bit at xs ys long also same j low high is =
    let i = j - 64 * at in
    let place : 64 * at + i ≡ j = omega arith in
    let within : i < 64 * 8 = omega arith in
    let left = bit_at_word-chunk at 8 i xs within ∙ ap (bit_at_word xs) place in
    let right = bit_at_word-chunk at 8 i ys within ∙ ap (bit_at_word ys) place in
    sym right ∙ ap (λ zs. bit_at_word zs i) (sym same)
    ∙ bit_at_word-union (chunk at 8 xs) (chunk at 8 ys) i (length-chunk at 8 xs long ∙ sym (length-chunk at 8 ys also))
    ∙ or_left (bit_at_word (chunk at 8 xs) i) (bit_at_word (chunk at 8 ys) i) (left ∙ is)

-- A number in a range is found in the range.
pub any_in_range : (a n q : ℕ) → a ≤ q → q < a + n → list_any (λ y. eqb y q) (range_with_len a n) ≡ true
any_in_range a n q low high =
    list_any_at (λ y. eqb y q) (range_with_len a n) (q - a) 0 (omega (arith, length-range_with_len a n))
    (eq-eqb _ q (get_or-range_with_len a n (q - a) 0 (omega arith) ∙ omega arith))

-- A number outside a range is not found in the range.
pub none_in_range : (a n q : ℕ) → ((q < a) ⊎ (a + n ≤ q)) → list_any (λ y. eqb y q) (range_with_len a n) ≡ false
none_in_range a n q outside =
    list_any_none (λ y. eqb y q) (range_with_len a n)
    (All-from_get_or (λ y. eqb y q ≡ false) (range_with_len a n) 0
    (λ i h. ne_eqb _ q (λ e. let place : get_or (range_with_len a n) i 0 ≡ a + i = get_or-range_with_len a n i 0 (omega (arith, length-range_with_len a n)) in
    elim outside [ inl low ↦ omega (arith, length-range_with_len a n) | inr high ↦ omega (arith, length-range_with_len a n) ])))

-- A number is a member of the set of a clear row if its bit is set.
pub contains-row : (n : ℕ) (words : List ℕ) → IsClearFrom n words → (q : ℕ) → contains (number_set n words).members q ≡ bit_at_word words q
unfolding members_of
contains-row n words clear q =
    contains-from_list_nat (members_of n words) q
    ∙ any-filter_same (λ y. eqb y q) (bit_at_word words) (bit_at_word words q) (λ k e. ap (bit_at_word words) (eqb-true k q e)) (range_with_len 0 n)
    ∙ elim (cases_lt q n) [
      | inl within ↦ ap (λ b. bit_at_word words q && b) (any_in_range 0 n q (omega arith) (omega arith)) ∙ and-true (bit_at_word words q)
      | inr past ↦ ap (λ b. b && list_any (λ y. eqb y q) (range_with_len 0 n)) (clear q past) ∙ sym (clear q past)
    ]
  where
    and-true : (b : Bool) → (b && true) ≡ b
    and-true true = refl
    and-true false = refl

-- The members of the set of a clear row, in ascending order, are the numbers of the set bits.
pub rising-row : (n : ℕ) (words : List ℕ) → IsClearFrom n words → rising_members (number_set n words) ≡ members_of n words
unfolding members_of
rising-row n words clear = filter_agree _ (bit_at_word words) (contains-row n words clear) (range_with_len 0 n)

-- The set of a row of zeros is empty.
pub empty-row : (n k : ℕ) → (number_set n (replicate k 0)).members ≡ empty
empty-row n k =
    same_set nat_cmp_total nat_cmp-IsAntisymmetric _ _ (λ q. contains-row n (replicate k 0) (λ i _. bit_at_word-zeros k i) q ∙ bit_at_word-zeros k q
    ∙ sym (contains-empty nat_cmp q))

-- A row stays clear when a bit below its size is set.
pub clear_with_bit : (n i : ℕ) (words also : List ℕ) → IsClearFrom n words → i < n → ((j : ℕ) → bit_at_word also j ≡ (eqb j i || bit_at_word words j)) →
    IsClearFrom n also
clear_with_bit n i words also clear within bits j past = bits j ∙ ap₂ ◌||◌ (ne_eqb j i (λ e. omega arith)) (clear j past)

-- Setting a bit inserts its number into the set.
pub insert-row : (n i : ℕ) (words also : List ℕ) → IsClearFrom n words → i < n → ((j : ℕ) → bit_at_word also j ≡ (eqb j i || bit_at_word words j)) →
    (number_set n also).members ≡ insert (number_set n words).members i
insert-row n i words also clear within bits =
    same_set nat_cmp_total nat_cmp-IsAntisymmetric _ _
    (λ q. contains-row n also (clear_with_bit n i words also clear within bits) q ∙ bits q
    ∙ ap₂ ◌||◌ (sym (unsigned_tied q i)) (sym (contains-row n words clear q)) ∙ sym (contains-insert nat_cmp_total _ i q))

-- The union of two clear rows is clear.
pub clear_union : (n : ℕ) (xs ys : List ℕ) → length xs ≡ length ys → IsClearFrom n xs → IsClearFrom n ys → IsClearFrom n (zip2 bit_or xs ys)
clear_union n xs ys same clear also j past = bit_at_word-union xs ys j same ∙ ap₂ ◌||◌ (clear j past) (also j past)

-- The meet of a clear row and any other row is clear.
pub clear_meet : (n : ℕ) (xs ys : List ℕ) → length xs ≡ length ys → IsClearFrom n xs → IsClearFrom n (zip2 bit_and xs ys)
clear_meet n xs ys same clear j past = bit_at_word-meet xs ys j same ∙ ap (λ b. b && bit_at_word ys j) (clear j past)

-- The set of a union is the union of the sets.
pub union-row : (n : ℕ) (xs ys : List ℕ) → length xs ≡ length ys → IsClearFrom n xs → IsClearFrom n ys →
    (number_set n (zip2 bit_or xs ys)).members ≡ union (number_set n xs).members (number_set n ys).members
union-row n xs ys same clear also =
    same_set nat_cmp_total nat_cmp-IsAntisymmetric _ _
    (λ q. contains-row n _ (clear_union n xs ys same clear also) q ∙ bit_at_word-union xs ys q same
    ∙ ap₂ ◌||◌ (sym (contains-row n xs clear q)) (sym (contains-row n ys also q)) ∙ sym (contains-union nat_cmp_total _ _ q))

-- The set of a meet is the intersection of the sets.
pub meet-row : (n : ℕ) (xs ys : List ℕ) → length xs ≡ length ys → IsClearFrom n xs → IsClearFrom n ys →
    (number_set n (zip2 bit_and xs ys)).members ≡ intersection (number_set n xs).members (number_set n ys).members
meet-row n xs ys same clear also =
    same_set nat_cmp_total nat_cmp-IsAntisymmetric _ _
    (λ q. contains-row n _ (clear_meet n xs ys same clear) q ∙ bit_at_word-meet xs ys q same
    ∙ ap₂ ◌&&◌ (sym (contains-row n xs clear q)) (sym (contains-row n ys also q)) ∙ sym (contains-intersection nat_cmp_total _ _ q))

-- Filtering a range that is one longer appends the last number if it passes.
filter_range_more : (p : ℕ → Bool) (n : ℕ) → filter p (range_with_len 0 (n + 1)) ≡ filter p (range_with_len 0 n) ++ cond (p n) (n ∷ []) []
filter_range_more p n =
    sym (ap (filter p) (map-id (range_with_len 0 (n + 1))))
    ∙ filter_of_map_range_with_len_more p (λ k. k) 0 n n (omega arith)
    ∙ ap (λ xs. filter p xs ++ cond (p n) (n ∷ []) []) (map-id (range_with_len 0 n))

-- A filtered range is strictly increasing.
filter_range_rises : (p : ℕ → Bool) (n : ℕ) → IsStrictlyIncreasing (filter p (range_with_len 0 n))
filter_range_rises p n =
    IsStrictlyIncreasing-filter p (range_with_len 0 n)
    (λ k h. let long = length-range_with_len 0 n in
    let here = get_or-range_with_len 0 n k 0 (omega arith) in
    let next = get_or-range_with_len 0 n (k + 1) 0 (omega arith) in
    omega arith)

-- If n passes, it is appended to the numbers below n that pass.
pub filter_range_takes : (p : ℕ → Bool) (n : ℕ) (xs : List ℕ) → p n ≡ true → xs ≡ filter p (range_with_len 0 n) →
    xs ++ n ∷ [] ≡ filter p (range_with_len 0 (n + 1))
filter_range_takes p n xs passes so_far = ap (λ ys. ys ++ n ∷ []) so_far ∙ ap (λ b. filter p (range_with_len 0 n) ++ cond b (n ∷ []) []) (sym passes)
    ∙ sym (filter_range_more p n)

-- If n does not pass, the numbers that pass are unchanged.
pub filter_range_skips : (p : ℕ → Bool) (n : ℕ) (xs : List ℕ) → p n ≡ false → xs ≡ filter p (range_with_len 0 n) → xs ≡ filter p (range_with_len 0 (n + 1))
filter_range_skips p n xs fails so_far = so_far ∙ sym (append-nil (filter p (range_with_len 0 n)))
    ∙ ap (λ b. filter p (range_with_len 0 n) ++ cond b (n ∷ []) []) (sym fails) ∙ sym (filter_range_more p n)

-- The numbers of the set bits are strictly increasing.
pub members_rise : (n : ℕ) (words : List ℕ) → IsStrictlyIncreasing (members_of n words)
unfolding members_of
members_rise n words = filter_range_rises (bit_at_word words) n
