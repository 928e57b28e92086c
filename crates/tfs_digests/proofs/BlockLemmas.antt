-- Lemmas about a padded text as blocks of 64 bytes.
use Rattle.std.proofs.Common.{◌≡◌, ℕ, suc, ◌+◌, ◌-◌, ◌*◌, ◌/◌, ◌%◌, ◌^◌, ◌<◌, ◌≤◌, List, ◌∷◌, ◌++◌, length, take, drop, set, replicate, arith, refl, sym, ap, ◌∙◌, length-append, length-drop, append_assoc}
use Rattle.std.proofs.lemmas.List.{take-append-le, drop-append-le, drop-drop, drop-replicate, take-take, take_all, take_at, length-replicate, replicate-append-replicate}
use Rattle.std.proofs.Math.Seq.{set-append_seam}
use Rattle.std.proofs.lemmas.Slice.{take-put_mid}
use Rattle.std.specs.Int.{w64, to_le_bytes}
use Rattle.md5.specs.Md5.{padding, padded_message}
use Rattle.tfs_digests.specs.Blocks.{block_count, block_of, end_of, BeginsWithEnd}
use borrow.Rule.Slice.PartMut.{put_mid, mid_of}

length_padding : (n : ℕ) → length (padding n) ≡ 9 + (119 - n % 64) % 64
length_padding n =
    let zeros : ℕ = (119 - n % 64) % 64 in
    let parts = length-append (0x80 ∷ replicate zeros 0) (to_le_bytes w64 (n * 8 % 2 ^ 64)) in
    let bits : length (to_le_bytes w64 (n * 8 % 2 ^ 64)) ≡ 8 = refl in
    let all : length (replicate zeros 0) ≡ zeros = length-replicate {A = ℕ} zeros 0 in
    omega (arith, parts, bits, all)

length_padded : (m : List ℕ) → length (padded_message m) ≡ length m + 9 + (119 - length m % 64) % 64
length_padded m = omega (arith, length-append m (padding (length m)), length_padding (length m))

-- After the whole blocks, the rest needs one block if it has fewer than 56 bytes, otherwise two.
pub count_with_short_end : (m : List ℕ) → length m % 64 < 56 → block_count m ≡ length m / 64 + 1
unfolding block_count
count_with_short_end m short = omega (arith, length_padded m)

pub count_with_long_end : (m : List ℕ) → 56 ≤ length m % 64 → block_count m ≡ length m / 64 + 2
unfolding block_count
count_with_long_end m long = omega (arith, length_padded m)

length_end : (m : List ℕ) → length (end_of m) ≡ (block_count m - length m / 64) * 64
unfolding block_count end_of
length_end m = omega (arith, length-drop (length m / 64 * 64) (padded_message m), length_padded m)

count_is : (m : List ℕ) → (length m / 64 + 1 ≤ block_count m) × (block_count m ≤ length m / 64 + 2)
unfolding block_count
count_is m = (omega (arith, length_padded m), omega (arith, length_padded m))

-- A whole block of the text is the block of the padded text with this number.
pub whole_block : (m : List ℕ) (i : ℕ) → i < length m / 64 → take (64 * i + 64 - 64 * i) (drop (64 * i) m) ≡ block_of m i
unfolding block_of
whole_block m i low =
    let size : 64 * i + 64 - 64 * i ≡ 64 = omega arith in
    let place : 64 * i ≡ i * 64 = omega arith in
    let p : List ℕ = padding (length m) in
    let fits : 64 ≤ length (drop (i * 64) m) = omega (arith, length-drop (i * 64) m) in
    let behind : drop (i * 64) (m ++ p) ≡ drop (i * 64) m ++ p = drop-append-le (i * 64) m p (omega arith) in
    let first : take 64 (drop (i * 64) m ++ p) ≡ take 64 (drop (i * 64) m) = take-append-le 64 (drop (i * 64) m) p fits in
    rw (size, place) (sym (ap (take 64) behind ∙ first))

-- The first block of a text's end is the block after its whole blocks.
pub first_block_of_end : (m e : List ℕ) → BeginsWithEnd m e → take 64 e ≡ block_of m (length m / 64)
unfolding block_of end_of
first_block_of_end m e begins =
    let fits : 64 ≤ length (end_of m) = omega (arith, length_end m, count_is m) in
    sym (take-take 64 (length (end_of m)) e fits) ∙ ap (take 64) begins

-- The second block of a text's end is the block after that one.
pub second_block_of_end : (m e : List ℕ) (i : ℕ) → BeginsWithEnd m e → length e ≡ 128 → i < block_count m → length m / 64 < i
    → mid_of 64 64 e ≡ block_of m i
unfolding block_of end_of
second_block_of_end m e i begins size low behind =
    let all : take (length (end_of m)) e ≡ e = take_all (length (end_of m)) e (omega (arith, length_end m, count_is m)) in
    let place : length m / 64 * 64 + 64 ≡ i * 64 = omega (arith, count_is m) in
    let rest : drop 64 e ≡ drop (i * 64) (padded_message m) =
    ap (drop 64) (sym all ∙ begins) ∙ drop-drop 64 (length m / 64 * 64) (padded_message m) ∙ ap (λ n. drop n (padded_message m)) place in
    ap (take 64) rest

-- Bytes followed by the byte 0x80 and zeros.
abbrev marked : List ℕ → ℕ → List ℕ
marked left n = left ++ 0x80 ∷ replicate n 0

pub marked_at_the_seam : (left : List ℕ) → length left < 64
    → set (left ++ drop {A = ℕ} (length left) (replicate 128 0)) (length left) 0x80 ≡ marked left (127 - length left)
marked_at_the_seam left short =
    let n : ℕ = 127 - length left in
    let more : 128 - length left ≡ suc n = omega arith in
    let zeros : drop {A = ℕ} (length left) (replicate 128 0) ≡ 0 ∷ replicate n 0 =
    drop-replicate (length left) 128 0 ∙ ap (λ (k : ℕ). replicate {A = ℕ} k 0) more in
    rw zeros (set-append_seam left 0 (replicate n 0) 0x80)

length_marked : (left : List ℕ) (n : ℕ) → length (marked left n) ≡ length left + 1 + n
length_marked left n =
    let all : length (replicate n 0) ≡ n = length-replicate {A = ℕ} n 0 in
    omega (arith, length-append left (0x80 ∷ replicate n 0), all)

take_marked : (left : List ℕ) (n at : ℕ) → length left < at → at ≤ length left + 1 + n
    → take at (marked left n) ≡ marked left (at - 1 - length left)
take_marked left n at low fits =
    let z : ℕ = at - 1 - length left in
    let r : ℕ = n - z in
    let sum : z + r ≡ n = omega arith in
    let split : replicate n 0 ≡ replicate z 0 ++ replicate r 0 = sym (replicate-append-replicate z r 0 ∙ ap (λ (k : ℕ). replicate {A = ℕ} k 0) sum) in
    let cut : marked left n ≡ marked left z ++ replicate r 0 = rw split (sym (append_assoc left (0x80 ∷ replicate z 0) (replicate r 0))) in
    rw cut (take_at (marked left z) (replicate r 0) at (omega (arith, length_marked left z)))

-- A text's end is the bytes after its whole blocks, the byte 0x80, zeros up to the last 8 bytes of
-- a block, and the length in bits.
pub end_is : (m left bits : List ℕ) (at k : ℕ) → left ≡ drop (length m / 64 * 64) m → bits ≡ to_le_bytes w64 (length m * 8 % 2 ^ 64)
    → at ≡ length m % 64 + 1 + (119 - length m % 64) % 64 → at ≤ 120
    → BeginsWithEnd m (put_mid at k (marked left (127 - length left)) bits)
unfolding end_of
end_is m left bits at k el eb ea most =
    let size : length left ≡ length m % 64 = ap length el ∙ length-drop (length m / 64 * 64) m ∙ omega arith in
    let eight : length bits ≡ 8 = ap length eb in
    let zeros : ℕ = (119 - length m % 64) % 64 in
    let same : at - 1 - length left ≡ zeros = omega arith in
    let all : length (end_of m) ≡ at + length bits = omega (arith, length-drop (length m / 64 * 64) (padded_message m), length_padded m) in
    let whole : ℕ = 127 - length left in
    let front : take (length (end_of m)) (put_mid at k (marked left whole) bits) ≡ take at (marked left whole) ++ bits =
    take-put_mid at k (marked left whole) bits (length (end_of m)) all (omega (arith, length_marked left whole)) in
    let head : take at (marked left whole) ≡ marked left zeros =
    take_marked left whole at (omega arith) (omega arith) ∙ ap (marked left) same in
    let text : end_of m ≡ left ++ padding (length m) =
    drop-append-le (length m / 64 * 64) m (padding (length m)) (omega arith) ∙ ap (λ x. x ++ padding (length m)) (sym el) in
    front ∙ ap (λ x. x ++ bits) head ∙ append_assoc left (0x80 ∷ replicate zeros 0) bits
    ∙ ap (λ b. left ++ ((0x80 ∷ replicate zeros 0) ++ b)) eb ∙ sym text
