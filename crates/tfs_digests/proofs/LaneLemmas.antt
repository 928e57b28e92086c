-- Lemmas about the lanes of vectors.
use Rattle.std.proofs.Common.{◌≡◌, ℕ, zero, suc, ◌<◌, ◌+◌, ◌-◌, ◌*◌, ◌/◌, ◌%◌, ◌^◌, List, [], ◌∷◌, length, slice_index, bit_and, bit_or, bit_xor, map, arith, refl, subst}
use Rattle.std.specs.Simd.Lanes.{zip2}
use Rattle.std.specs.Int.{w32, bit_not, rotate_left}
use Rattle.md5.specs.Md5.{f_fn, g_fn, h_fn, i_fn}
use Rattle.tfs_digests.specs.Lanes.{lane_at, words_of}

-- A property that holds of 0 to 3 holds of each number below 4.
pub below_four : (P : ℕ → Type 0) → P 0 → P 1 → P 2 → P 3 → (j : ℕ) → j < 4 → P j
below_four P p0 p1 p2 p3 zero h = p0
below_four P p0 p1 p2 p3 (suc zero) h = p1
below_four P p0 p1 p2 p3 (suc (suc zero)) h = p2
below_four P p0 p1 p2 p3 (suc (suc (suc zero))) h = p3
below_four P p0 p1 p2 p3 (suc (suc (suc (suc n)))) h = absurd (omega arith)

-- A property that holds of 0 to 15 holds of each number below 16.
pub below_sixteen : (P : ℕ → Type 0) → P 0 → P 1 → P 2 → P 3 → P 4 → P 5 → P 6 → P 7
    → P 8 → P 9 → P 10 → P 11 → P 12 → P 13 → P 14 → P 15 → (k : ℕ) → k < 16 → P k
below_sixteen P a0 a1 a2 a3 b0 b1 b2 b3 c0 c1 c2 c3 d0 d1 d2 d3 k h =
    let place : 4 * (k / 4) + k % 4 ≡ k = omega arith in
    subst P place (below_four (λ row. (col : ℕ) → col < 4 → P (4 * row + col))
    (below_four _ a0 a1 a2 a3) (below_four _ b0 b1 b2 b3) (below_four _ c0 c1 c2 c3) (below_four _ d0 d1 d2 d3)
    (k / 4) (omega arith) (k % 4) (omega arith))

-- A property of all lists of the form `a ∷ b ∷ c ∷ d ∷ []` holds of each list of length 4.
pub four_lanes : (P : List ℕ → Type 0) → ((a b c d : ℕ) → P (a ∷ b ∷ c ∷ d ∷ [])) → (xs : List ℕ) → length xs ≡ 4 → P xs
four_lanes P p (a ∷ b ∷ c ∷ d ∷ []) h = p a b c d
four_lanes P p [] h = absurd (omega arith)
four_lanes P p (a ∷ []) h = absurd (omega arith)
four_lanes P p (a ∷ b ∷ []) h = absurd (omega arith)
four_lanes P p (a ∷ b ∷ c ∷ []) h = absurd (omega arith)
four_lanes P p (a ∷ b ∷ c ∷ d ∷ e ∷ xs) h = absurd (omega arith)

-- In each lane, a left shift by `k`, a right shift by 32 - `k` and an `or` are a rotation by `k`.
abbrev Rotates : ℕ → List ℕ → Type 0
Rotates k a = (j : ℕ) → j < 4
    → slice_index (zip2 bit_or
    (zip2 (λ x n. x * 2 ^ n % 2 ^ 32) a (k ∷ k ∷ k ∷ k ∷ []))
    (zip2 (λ x n. x / 2 ^ n) a ((32 - k) ∷ (32 - k) ∷ (32 - k) ∷ (32 - k) ∷ []))) j
    ≡ rotate_left w32 (slice_index a j) k

pub shifts_rotate : (k : ℕ) → 0 < k → k < 32 → (a : List ℕ) → length a ≡ 4 → Rotates k a
shifts_rotate k low high =
    let left : k % 32 ≡ k = omega arith in
    let right : (32 - k) % 32 ≡ 32 - k = omega arith in
    four_lanes (Rotates k) (λ a0 a1 a2 a3.
    below_four _ (rw (left, right) refl) (rw (left, right) refl) (rw (left, right) refl) (rw (left, right) refl))

-- Word `k` of message `j` is lane `j` of vector `k`.
pub word_of : (x : List (List ℕ)) (j k : ℕ) → k < 16 → slice_index (words_of j x) k ≡ lane_at x k j
word_of x j = below_sixteen _ refl refl refl refl refl refl refl refl refl refl refl refl refl refl refl refl

-- A property of three lists with four given elements each holds of three lists of length 4.
three_vectors : (P : List ℕ → List ℕ → List ℕ → Type 0)
    → ((x0 x1 x2 x3 y0 y1 y2 y3 z0 z1 z2 z3 : ℕ) → P (x0 ∷ x1 ∷ x2 ∷ x3 ∷ []) (y0 ∷ y1 ∷ y2 ∷ y3 ∷ []) (z0 ∷ z1 ∷ z2 ∷ z3 ∷ []))
    → (x y z : List ℕ) → length x ≡ 4 → length y ≡ 4 → length z ≡ 4 → P x y z
three_vectors P p x y z lx ly lz =
    four_lanes (λ x. P x y z) (λ x0 x1 x2 x3.
    four_lanes (λ y. P (x0 ∷ x1 ∷ x2 ∷ x3 ∷ []) y z) (λ y0 y1 y2 y3.
    four_lanes (P (x0 ∷ x1 ∷ x2 ∷ x3 ∷ []) (y0 ∷ y1 ∷ y2 ∷ y3 ∷ [])) (λ z0 z1 z2 z3.
    p x0 x1 x2 x3 y0 y1 y2 y3 z0 z1 z2 z3) z lz) y ly) x lx

-- The functions of the rounds (RFC 1321, section 3.4) applied to vectors are those functions in
-- each lane.
pub f_lanes : (x y z : List ℕ) → length x ≡ 4 → length y ≡ 4 → length z ≡ 4 → (j : ℕ) → j < 4
    → slice_index (zip2 bit_or (zip2 bit_and x y) (zip2 bit_and (map (bit_not w32) x) z)) j
    ≡ f_fn (slice_index x j) (slice_index y j) (slice_index z j)
f_lanes =
    three_vectors (λ x y z. (j : ℕ) → j < 4
    → slice_index (zip2 bit_or (zip2 bit_and x y) (zip2 bit_and (map (bit_not w32) x) z)) j
    ≡ f_fn (slice_index x j) (slice_index y j) (slice_index z j))
    (λ x0 x1 x2 x3 y0 y1 y2 y3 z0 z1 z2 z3. below_four _ refl refl refl refl)

pub g_lanes : (x y z : List ℕ) → length x ≡ 4 → length y ≡ 4 → length z ≡ 4 → (j : ℕ) → j < 4
    → slice_index (zip2 bit_or (zip2 bit_and x z) (zip2 bit_and y (map (bit_not w32) z))) j
    ≡ g_fn (slice_index x j) (slice_index y j) (slice_index z j)
g_lanes =
    three_vectors (λ x y z. (j : ℕ) → j < 4
    → slice_index (zip2 bit_or (zip2 bit_and x z) (zip2 bit_and y (map (bit_not w32) z))) j
    ≡ g_fn (slice_index x j) (slice_index y j) (slice_index z j))
    (λ x0 x1 x2 x3 y0 y1 y2 y3 z0 z1 z2 z3. below_four _ refl refl refl refl)

pub h_lanes : (x y z : List ℕ) → length x ≡ 4 → length y ≡ 4 → length z ≡ 4 → (j : ℕ) → j < 4
    → slice_index (zip2 bit_xor (zip2 bit_xor x y) z) j ≡ h_fn (slice_index x j) (slice_index y j) (slice_index z j)
h_lanes =
    three_vectors (λ x y z. (j : ℕ) → j < 4
    → slice_index (zip2 bit_xor (zip2 bit_xor x y) z) j ≡ h_fn (slice_index x j) (slice_index y j) (slice_index z j))
    (λ x0 x1 x2 x3 y0 y1 y2 y3 z0 z1 z2 z3. below_four _ refl refl refl refl)

pub i_lanes : (x y z : List ℕ) → length x ≡ 4 → length y ≡ 4 → length z ≡ 4 → (j : ℕ) → j < 4
    → slice_index (zip2 bit_xor y (zip2 bit_or x (map (bit_not w32) z))) j ≡ i_fn (slice_index x j) (slice_index y j) (slice_index z j)
i_lanes =
    three_vectors (λ x y z. (j : ℕ) → j < 4
    → slice_index (zip2 bit_xor y (zip2 bit_or x (map (bit_not w32) z))) j ≡ i_fn (slice_index x j) (slice_index y j) (slice_index z j))
    (λ x0 x1 x2 x3 y0 y1 y2 y3 z0 z1 z2 z3. below_four _ refl refl refl refl)
