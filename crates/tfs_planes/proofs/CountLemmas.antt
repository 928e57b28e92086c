-- Lemmas about the number of set bits.
use Rattle.std.proofs.Common.{◌≡◌, ℕ, ◌+◌, ◌-◌, ◌*◌, ◌/◌, ◌%◌, ◌^◌, ◌<◌, ◌≤◌, suc, zero, Bool, true, false, cond, ◌&&◌, eqb, List, [], ◌∷◌, length}
use Rattle.std.proofs.Common.{get_or, map, sum_by, count_by, count_ones, filter, Fits, w64, refl, ap, ap₂, sym, ◌∙◌, inl, arith}
use Rattle.std.proofs.lemmas.Bool.{eqb-true}
use Rattle.std.proofs.lemmas.List.FromFn.{get_or-map-range_with_len, length-map-range_with_len}
use Rattle.std.proofs.lemmas.List.Sums.{sum_by-cons}
use Rattle.std.proofs.lemmas.Map.Views.{any-filter_same}
use Rattle.std.proofs.lemmas.Nat.Bits.{bit_at-lt, same_from_bits_below}
use Rattle.std.proofs.lemmas.Simd.{mask_l-lt, bit_mask_l, ones-mask_l}
use Rattle.std.specs.Cmp.{nat_cmp_total}
use Rattle.std.specs.FinSet.{contains, len, from_list, len-empty, len-insert, contains-from_list_nat}
use Rattle.std.specs.Int.{bit_at}
use Rattle.std.specs.List.{range_with_len}
use Rattle.std.specs.Ordering.{nat_cmp}
use Rattle.std.specs.Simd.Lanes.{mask_l}
use Rattle.tfs_planes.specs.Row.{bit_at_word, members_of, number_set, IsClearFrom}
use Rattle.tfs_planes.proofs.BitLemmas.{none_in_range}

-- A bit is 1 if its test holds, and 0 otherwise.
bit_is_cond : (b : ℕ) → b < 2 → b ≡ cond (eqb b 1) 1 0
bit_is_cond zero below = refl
bit_is_cond (suc zero) below = refl
bit_is_cond (suc (suc b)) below = absurd (omega arith)

-- The number of ones in a word of w bits is the number of its set bits, counted one by one.
count_word : (w word : ℕ) → word < 2 ^ w → count_ones word ≡ count_by (λ i. eqb (bit_at word i) 1) (range_with_len 0 w)
count_word w word fits =
    let p : ℕ → Bool = λ i. eqb (bit_at word i) 1 in
    let bits : List Bool = map p (range_with_len 0 w) in
    let long : length bits ≡ w = length-map-range_with_len p 0 w in
    let small : mask_l bits < 2 ^ w = let h = mask_l-lt bits in rw long at h in
    ap count_ones
    (same_from_bits_below w word (mask_l bits) fits small
    (λ i below. bit_is_cond (bit_at word i) (bit_at-lt word i) ∙ sym (bit_mask_l bits i
    ∙ ap (λ b. cond b 1 0) (get_or-map-range_with_len p 0 w i i false below (omega arith)))))
    ∙ ones-mask_l p (range_with_len 0 w)

-- Two ranges of one length have equal counts if the tests agree at each offset.
count_alike : (p q : ℕ → Bool) (a b n : ℕ) → ((i : ℕ) → i < n → p (a + i) ≡ q (b + i)) → count_by p (range_with_len a n) ≡ count_by q (range_with_len b n)
count_alike p q a b zero alike = refl
count_alike p q a b (suc n) alike =
    let first : p a ≡ q b = let at_a : a ≡ a + 0 = omega arith in let at_b : b + 0 ≡ b = omega arith in ap p at_a ∙ alike 0 (omega arith) ∙ ap q at_b in
    sum_by-cons (λ x. cond (p x) 1 0) a (range_with_len (a + 1) n)
    ∙ ap₂ (λ x y. cond x 1 0 + y) first
    (count_alike p q (a + 1) (b + 1) n (λ i below. let at_a : a + 1 + i ≡ a + (1 + i) = omega arith in let at_b : b + (1 + i) ≡ b + 1 + i = omega arith in
    ap p at_a ∙ alike (1 + i) (omega arith) ∙ ap q at_b))
    ∙ sym (sum_by-cons (λ x. cond (q x) 1 0) b (range_with_len (b + 1) n))

-- The count over a range is the sum of the counts over its two parts.
count_parts : (p : ℕ → Bool) (a n m k : ℕ) → k ≡ n + m → count_by p (range_with_len a k) ≡ count_by p (range_with_len a n) + count_by p
    (range_with_len (a + n) m)
count_parts p a zero m k e = let whole : k ≡ m = omega arith in let start : a ≡ a + 0 = omega arith in ap (λ j. count_by p (range_with_len a j)) whole
    ∙ ap (λ j. count_by p (range_with_len j m)) start ∙ omega arith
count_parts p a (suc n) m zero e = absurd (omega arith)
count_parts p a (suc n) m (suc k) e =
    let start : a + 1 + n ≡ a + suc n = omega arith in
    let rest = count_parts p (a + 1) n m k (omega arith) in
    let moved = ap (λ j. count_by p (range_with_len j m)) start in
    omega (arith, rest, moved, sum_by-cons (λ x. cond (p x) 1 0) a (range_with_len (a + 1) k), sum_by-cons (λ x. cond (p x) 1 0) a (range_with_len (a + 1) n))

-- If no number passes, the count is 0.
count_none : (p : ℕ → Bool) (a n : ℕ) → ((i : ℕ) → a ≤ i → p i ≡ false) → count_by p (range_with_len a n) ≡ 0
count_none p a zero none = refl
count_none p a (suc n) none =
    sum_by-cons (λ x. cond (p x) 1 0) a (range_with_len (a + 1) n)
    ∙ ap₂ (λ x y. cond x 1 0 + y) (none a (omega arith)) (count_none p (a + 1) n (λ i from. none i (omega arith)))

-- The bits below 64 of a list are the bits of its first word.
first_word : (word : ℕ) (words : List ℕ) (i : ℕ) → i < 64 → bit_at_word (word ∷ words) (0 + i) ≡ eqb (bit_at word (0 + i)) 1
unfolding bit_at_word
first_word word words i below =
    let start : (0 + i) / 64 ≡ 0 = omega arith in
    let place : (0 + i) % 64 ≡ 0 + i = omega arith in
    ap₂ (λ k j. eqb (bit_at (get_or (word ∷ words) k 0) j) 1) start place

-- The bits from 64 on of a list are the bits of the words after the first.
later_words : (word : ℕ) (words : List ℕ) (i : ℕ) → bit_at_word (word ∷ words) (0 + 64 + i) ≡ bit_at_word words (0 + i)
unfolding bit_at_word
later_words word words i =
    let next : (0 + 64 + i) / 64 ≡ suc ((0 + i) / 64) = omega arith in
    let place : (0 + 64 + i) % 64 ≡ (0 + i) % 64 = omega arith in
    ap₂ (λ k j. eqb (bit_at (get_or (word ∷ words) k 0) j) 1) next place

-- The sum of the ones in the words is the number of set bits, counted one by one.
pub count_each : (words : List ℕ) → ((k : ℕ) → Fits w64 (get_or words k 0)) →
    sum_by count_ones words ≡ count_by (bit_at_word words) (range_with_len 0 (64 * length words))
count_each [] fits = refl
count_each (word ∷ words) fits =
    let first = count_word 64 word (fits 0).fits ∙ sym (count_alike (bit_at_word (word ∷ words)) (λ i. eqb (bit_at word i) 1) 0 0 64 (first_word word words)) in
    let rest = count_each words (λ k. fits (suc k)) ∙ sym (count_alike (bit_at_word (word ∷ words)) (bit_at_word words) (0 + 64) 0 (64 * length words)
    (λ i _. later_words word words i)) in
    sum_by-cons count_ones word words ∙ ap₂ ◌+◌ first rest ∙ sym (count_parts (bit_at_word (word ∷ words)) 0 64 (64 * length words)
    (64 * suc (length words)) (omega arith))

-- The set of the numbers of a range that pass a test has as many members as the count says.
len_passes : (p : ℕ → Bool) (a n : ℕ) → len (from_list {R = nat_cmp} (filter p (range_with_len a n))) ≡ count_by p (range_with_len a n)
len_passes p a zero = len-empty nat_cmp
len_passes p a (suc n) =
    elim (p a) as (λ b. p a ≡ b → len (from_list {R = nat_cmp} (cond b (a ∷ filter p (range_with_len (a + 1) n)) (filter p (range_with_len (a + 1) n)))) ≡
    cond b 1 0 + count_by p (range_with_len (a + 1) n)) [
      | true ↦ λ is.
          let rest : List ℕ = filter p (range_with_len (a + 1) n) in
          let absent : contains (from_list {R = nat_cmp} rest) a ≡ false =
          contains-from_list_nat rest a
          ∙ any-filter_same (λ y. eqb y a) p (p a) (λ k e. ap p (eqb-true k a e)) (range_with_len (a + 1) n)
          ∙ ap₂ ◌&&◌ is (none_in_range (a + 1) n a (inl (omega arith))) in
          len-insert nat_cmp_total (from_list {R = nat_cmp} rest) a ∙ ap
          (λ b. cond b (len (from_list {R = nat_cmp} rest)) (len (from_list {R = nat_cmp} rest) + 1)) absent
          ∙ (let before = len_passes p (a + 1) n in omega (arith, before))
      | false ↦ λ is. let before = len_passes p (a + 1) n in before ∙ omega arith
    ] refl ∙ sym (sum_by-cons (λ x. cond (p x) 1 0) a (range_with_len (a + 1) n))

-- The number of members of a clear row is the number of its set bits.
pub len-row : (n : ℕ) (words : List ℕ) → n ≤ 64 * length words → IsClearFrom n words →
    count_by (bit_at_word words) (range_with_len 0 (64 * length words)) ≡ len (number_set n words).members
unfolding members_of
len-row n words within clear =
    count_parts (bit_at_word words) 0 n (64 * length words - n) (64 * length words) (omega arith)
    ∙ ap (λ k. count_by (bit_at_word words) (range_with_len 0 n) + k) (count_none (bit_at_word words) (0 + n) (64 * length words - n)
    (λ i from. clear i (omega arith)))
    ∙ (let more : count_by (bit_at_word words) (range_with_len 0 n) + 0 ≡ count_by (bit_at_word words) (range_with_len 0 n) = omega arith in more)
    ∙ sym (len_passes (bit_at_word words) 0 n)
