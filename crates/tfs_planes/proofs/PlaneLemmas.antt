-- Lemmas about the rows in a list of words, stored consecutively.
use Rattle.std.proofs.Common.{◌≡◌, ◌≢◌, ℕ, ◌+◌, ◌-◌, ◌*◌, ◌<◌, ◌≤◌, List, [], ◌++◌, length, take, drop, ap, sym, ◌∙◌, inl, inr, arith}
use Rattle.std.proofs.Math.Nat.{mul-le-mul_right}
use Rattle.std.proofs.lemmas.Bool.{cases_lt}
use Rattle.std.proofs.lemmas.List.{append_assoc, drop-append-le, drop-drop, drop_all, drop_at, length-append, length-drop, length-take-le}
use Rattle.std.proofs.lemmas.List.{take-append-drop, take-append-le, take_all, take_at}
use borrow.Rule.Slice.PartMut.{put_mid}
use Rattle.tfs_planes.specs.Plane.{row_words}

-- A row ends within the words of all rows.
pub row_fits : (i m s : ℕ) → i < m → i * s + s ≤ m * s
row_fits i m s h = omega (arith, mul-le-mul_right s h)

-- The slice of a row's words is the row.
pub row_slice : (s i : ℕ) (words : List ℕ) → take (i * s + s - i * s) (drop (i * s) words) ≡ row_words s words i
unfolding row_words
row_slice s i words = let same : i * s + s - i * s ≡ s = omega arith in ap (λ k. take k (drop (i * s) words)) same

-- A row within the words has its full length.
pub length-row_words : (s i : ℕ) (words : List ℕ) → i * s + s ≤ length words → length (row_words s words i) ≡ s
unfolding row_words
length-row_words s i words h = length-take-le s (drop (i * s) words) (omega (arith, length-drop (i * s) words))

-- A row beyond the words is empty.
pub row_words_past : (s i : ℕ) (words : List ℕ) → length words ≤ i * s → row_words s words i ≡ []
unfolding row_words
row_words_past s i words h = let none : drop (i * s) words ≡ [] = drop_all (i * s) words h in ap (take s) none ∙ take_all s [] (omega arith)

-- A row of the first list is a row of the two lists joined.
pub row_words_front : (s m i : ℕ) (xs ys : List ℕ) → length xs ≡ m * s → i < m → row_words s (xs ++ ys) i ≡ row_words s xs i
unfolding row_words
row_words_front s m i xs ys long h =
    let room = row_fits i m s h in
    ap (take s) (drop-append-le (i * s) xs ys (omega arith)) ∙ take-append-le s (drop (i * s) xs) ys (omega (arith, length-drop (i * s) xs))

-- A row of the second list, after the m rows of the first, is a row of the two lists joined.
pub row_words_back : (s m i : ℕ) (xs ys : List ℕ) → length xs ≡ m * s → row_words s (xs ++ ys) (m + i) ≡ row_words s ys i
unfolding row_words
row_words_back s m i xs ys long =
    let place : (m + i) * s ≡ m * s + i * s = omega arith in
    ap (λ k. take s (drop k (xs ++ ys))) place
    ∙ ap (take s) (sym (drop-drop (i * s) (m * s) (xs ++ ys)))
    ∙ ap (λ zs. take s (drop (i * s) zs)) (drop_at xs ys (m * s) long)

-- The row between two lists is row m of the three joined.
pub row_words_mid : (s m : ℕ) (xs row ys : List ℕ) → length xs ≡ m * s → length row ≡ s → row_words s (xs ++ (row ++ ys)) m ≡ row
unfolding row_words
row_words_mid s m xs row ys long one = ap (take s) (drop_at xs (row ++ ys) (m * s) long) ∙ take_at row ys s one

-- A row after the row between two lists is a row of the second list.
pub row_words_behind : (s m i : ℕ) (xs row ys : List ℕ) → length xs ≡ m * s → length row ≡ s → row_words s (xs ++ (row ++ ys)) (m + 1 + i) ≡ row_words s ys i
row_words_behind s m i xs row ys long one =
    let joined : length (xs ++ row) ≡ (m + 1) * s = omega (arith, length-append xs row) in
    ap (λ zs. row_words s zs (m + 1 + i)) (sym (append_assoc xs row ys)) ∙ row_words_back s (m + 1) i (xs ++ row) ys joined

-- Replacing the row between two lists leaves every other row unchanged.
row_words_other : (s m i : ℕ) (xs row also ys : List ℕ) → length xs ≡ m * s → length row ≡ s → length also ≡ s → i ≢ m →
    row_words s (xs ++ (row ++ ys)) i ≡ row_words s (xs ++ (also ++ ys)) i
row_words_other s m i xs row also ys long one too other =
    elim (cases_lt i m) [
      | inl below ↦ row_words_front s m i xs (row ++ ys) long below ∙ sym (row_words_front s m i xs (also ++ ys) long below)
      | inr above ↦
          let place : i ≡ m + 1 + (i - m - 1) = omega arith in
          ap (row_words s (xs ++ (row ++ ys))) place
          ∙ row_words_behind s m (i - m - 1) xs row ys long one
          ∙ sym (row_words_behind s m (i - m - 1) xs also ys long too)
          ∙ ap (row_words s (xs ++ (also ++ ys))) (sym place)
    ]

-- The words are the words before row i, row i, and the words after it.
parts_of : (s i : ℕ) (words : List ℕ) → take (i * s) words ++ (row_words s words i ++ drop s (drop (i * s) words)) ≡ words
unfolding row_words
parts_of s i words = ap (λ zs. take (i * s) words ++ zs) (take-append-drop s (drop (i * s) words)) ∙ take-append-drop (i * s) words

-- After a write to row i, the row holds the written words.
pub row_put : (s i k : ℕ) (words row : List ℕ) → k ≡ s → i * s + s ≤ length words → length row ≡ s → row_words s (put_mid (i * s) k words row) i ≡ row
row_put s i k words row e h one = row_words_mid s i (take (i * s) words) row (drop k (drop (i * s) words)) (length-take-le (i * s) words (omega arith)) one

-- After a write to row i, every other row is unchanged.
pub row_put_other : (s i k j : ℕ) (words row : List ℕ) → k ≡ s → i * s + s ≤ length words → length row ≡ s → j ≢ i →
    row_words s (put_mid (i * s) k words row) j ≡ row_words s words j
row_put_other s i k j words row e h one other =
    ap (λ n. row_words s (take (i * s) words ++ (row ++ drop n (drop (i * s) words))) j) e
    ∙ row_words_other s i j (take (i * s) words) row (row_words s words i) (drop s (drop (i * s) words)) (length-take-le (i * s) words (omega arith)) one
    (length-row_words s i words h) other
    ∙ ap (λ zs. row_words s zs j) (parts_of s i words)
