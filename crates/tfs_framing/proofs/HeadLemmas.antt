-- Lemmas about heads: where they end, and that the end is unique.
use Rattle.std.proofs.Common.{◌≡◌, ◌≤◌, ◌+◌, ◌-◌, ◌⊎◌, ℕ, List, [], ◌∷◌, ◌++◌, length, refl, sym, ◌∙◌, ap, arith, append_assoc, length-append, inl}
use Rattle.std.proofs.Common.{inr, subst, take, drop, min, take-append-drop, length-take, append-nil}
use Rattle.std.proofs.Math.Seq.{take-append_seam, drop-append_seam}
use Rattle.httparse.specs.Ascii.{line_feed, carriage_return}
use Rattle.httparse.specs.Grammar.{LineEnd, crlf, lf, print_end, print_blank}
use Rattle.tfs_framing.specs.Head.{StartsWithEmptyLine, EndsWithEmptyLine, IsMessageHead, HasHead, HasNoHead}

-- The front of the bytes was searched: no line feed in it is followed by an empty line.
pub record PassedOver (bytes front rest : List ℕ) : Type 0 where
  pub parts : bytes ≡ front ++ rest
  pub none : (before after : List ℕ) → bytes ≡ before ++ line_feed ∷ after → StartsWithEmptyLine after → length front ≤ length before

-- An empty line can be moved from the rest to the skipped lines.
pub print_blank-snoc : (skipped : List LineEnd) (end : LineEnd) (rest : List ℕ)
    → print_blank (skipped ++ end ∷ []) ++ rest ≡ print_blank skipped ++ (print_end end ++ rest)
print_blank-snoc [] crlf rest = refl
print_blank-snoc [] lf rest = refl
print_blank-snoc (first ∷ skipped) end rest =
    append_assoc (print_end first) (print_blank (skipped ++ end ∷ [])) rest
    ∙ ap (λ t. print_end first ++ t) (print_blank-snoc skipped end rest)
    ∙ sym (append_assoc (print_end first) (print_blank skipped) (print_end end ++ rest))

-- Of two splits of one list, one front is a prefix of the other.
pub cuts : (a b c d : List ℕ) → a ++ b ≡ c ++ d
    → ((z : List ℕ) × (a ≡ c ++ z) × (d ≡ z ++ b)) ⊎ ((z : List ℕ) × (c ≡ a ++ z) × (b ≡ z ++ d))
cuts [] b c d e = inr (c, refl, e)
cuts (x ∷ a) b [] d e = inl (x ∷ a, refl, sym e)
cuts (x ∷ a) b (y ∷ c) d e =
    let heads : x ≡ y = cc in
    let tails : a ++ b ≡ c ++ d = cc in
    elim (cuts a b c d tails) [
      | inl w ↦ inl (w.0, cc, w.2)
      | inr w ↦ inr (w.0, cc, w.2)
    ]

-- A list of length 0 is empty.
pub nothing_left : (z : List ℕ) → length z ≡ 0 → z ≡ []
nothing_left [] e = refl
nothing_left (x ∷ z) e = absurd (omega arith)

-- Two splits of one list at the same position are equal.
pub same_cut : (a b c d : List ℕ) → a ++ b ≡ c ++ d → length a ≡ length c → (a ≡ c) × (b ≡ d)
same_cut [] b [] d e n = (refl, e)
same_cut [] b (y ∷ c) d e n = absurd (omega arith)
same_cut (x ∷ a) b [] d e n = absurd (omega arith)
same_cut (x ∷ a) b (y ∷ c) d e n =
    let heads : x ≡ y = cc in
    let tails : a ++ b ≡ c ++ d = cc in
    let rest = same_cut a b c d tails (omega arith) in
    (cc, rest.1)

-- The two parts of a split list, joined, are the list.
pub halves : (n : ℕ) (all front back : List ℕ) → front ≡ take n all → back ≡ drop n all → all ≡ front ++ back
halves n all front back is also = sym (take-append-drop n all) ∙ ap (λ t. t ++ drop n all) (sym is) ∙ ap (λ t. front ++ t) (sym also)

-- A line end has one or two bytes.
pub print_end_len : (end : LineEnd) → (1 ≤ length (print_end end)) × (length (print_end end) ≤ 2)
print_end_len crlf = (omega arith, omega arith)
print_end_len lf = (omega arith, omega arith)

-- If two lists joined are empty, the second is empty.
pub nothing_appended : (z rest : List ℕ) → [] ≡ z ++ rest → rest ≡ []
nothing_appended [] rest e = sym e
nothing_appended (x ∷ z) rest e = cc

-- No proper prefix of a line feed and an empty line ends with an empty line.
after_end : (z rest : List ℕ) (end last : LineEnd) → line_feed ∷ print_end end ≡ z ++ line_feed ∷ (print_end last ++ rest) → rest ≡ []
after_end [] rest crlf crlf e = cc
after_end [] rest crlf lf e = let wrong : carriage_return ≡ line_feed = cc in absurd (omega arith)
after_end [] rest lf crlf e = let wrong : line_feed ≡ carriage_return = cc in absurd (omega arith)
after_end [] rest lf lf e = cc
after_end (x ∷ []) rest crlf last e = let wrong : carriage_return ≡ line_feed = cc in absurd (omega arith)
after_end (x ∷ []) rest lf last e =
    let short : [] ≡ print_end last ++ rest = cc in
    nothing_appended (print_end last) rest short
after_end (x ∷ y ∷ z) rest end last e =
    let long = ap length e in
    let one = print_end_len end in
    let two = print_end_len last in
    absurd (omega (arith, long, one, two, length-append z (line_feed ∷ (print_end last ++ rest)), length-append (print_end last) rest))

-- No proper prefix of a front, a line feed and an empty line ends with an empty line, unless its
-- last line feed before an empty line is in the front.
ends_alone : (front before rest : List ℕ) (end last : LineEnd) → front ++ line_feed ∷ print_end end ≡ before ++ line_feed ∷ (print_end last ++ rest)
    → length front ≤ length before → rest ≡ []
ends_alone front before rest end last e n = elim (cuts front (line_feed ∷ print_end end) before (line_feed ∷ (print_end last ++ rest)) e) [
  | inl w ↦
      let long : length front ≡ length before + length w.0 = ap length w.1 ∙ length-append before w.0 in
      let none : w.0 ≡ [] = nothing_left w.0 (omega arith) in
      after_end [] rest end last (sym (subst (λ (t : List ℕ). line_feed ∷ (print_end last ++ rest) ≡ t ++ line_feed ∷ print_end end) none w.2))
  | inr w ↦ after_end w.0 rest end last w.2
]

-- A searched front, a line feed and an empty line are a message head.
pub head_found : (bytes front rest after behind : List ℕ) (byte : ℕ) (end : LineEnd) → PassedOver bytes front rest → rest ≡ byte ∷ after → byte ≡ line_feed
    → after ≡ print_end end ++ behind
    → (head : List ℕ) × (tail : List ℕ) × (bytes ≡ head ++ tail) × (length head ≡ length bytes - length behind) × IsMessageHead head
head_found bytes front left after behind byte end passed cut same split =
    let whole : bytes ≡ (front ++ line_feed ∷ print_end end) ++ behind =
    passed.parts ∙ ap (λ t. front ++ t) (cut ∙ ap (λ b. b ∷ after) same) ∙ ap (λ t. front ++ line_feed ∷ t) split
    ∙ sym (append_assoc front (line_feed ∷ print_end end) behind) in
    let long : length bytes ≡ length (front ++ line_feed ∷ print_end end) + length behind = ap length whole ∙ length-append _ _ in (
      front ++ line_feed ∷ print_end end,
      behind,
      whole,
      omega arith,
      record {
        ends = (front, end, refl);
        shortest = λ part rest cut ends.
            let before = ends.0 in
            let last = ends.1 in
            let again : front ++ line_feed ∷ print_end end ≡ before ++ line_feed ∷ (print_end last ++ rest) =
            cut ∙ ap (λ t. t ++ rest) ends.2 ∙ append_assoc before (line_feed ∷ print_end last) rest in
            let in_bytes : bytes ≡ before ++ line_feed ∷ ((print_end last ++ rest) ++ behind) =
            whole ∙ ap (λ t. t ++ behind) again ∙ append_assoc before (line_feed ∷ (print_end last ++ rest)) behind in
            ends_alone front before rest end last again
            (passed.none before ((print_end last ++ rest) ++ behind) in_bytes (last, rest ++ behind, append_assoc (print_end last) rest behind));
      },
    )

-- If all bytes were searched, no prefix of them ends with an empty line.
pub passed_all : (bytes front : List ℕ) → PassedOver bytes front [] → (part rest : List ℕ) → bytes ≡ part ++ rest → ¬ (EndsWithEmptyLine part)
passed_all bytes front passed part rest cut ends =
    let before = ends.0 in
    let last = ends.1 in
    let here : bytes ≡ before ++ line_feed ∷ (print_end last ++ rest) = cut ∙ ap (λ t. t ++ rest) ends.2
    ∙ append_assoc before (line_feed ∷ print_end last) rest in
    let low = passed.none before (print_end last ++ rest) here (last, rest, refl) in
    let one = ap length passed.parts in
    let two = ap length here in
    omega (arith, one, two, length-append front [], length-append before (line_feed ∷ (print_end last ++ rest)))

-- The search passes a byte that isn't a line feed or has no empty line after it.
pub byte_passed : (bytes front rest after : List ℕ) (byte : ℕ) → PassedOver bytes front rest → rest ≡ byte ∷ after
    → (byte ≡ line_feed → ¬ (StartsWithEmptyLine after)) → (next : List ℕ) × PassedOver bytes next after
byte_passed bytes front rest after byte passed split none =
    let parts = passed.parts ∙ ap (λ t. front ++ t) split in (
      front ++ byte ∷ [],
      record {
        parts = parts ∙ sym (append_assoc front (byte ∷ []) after);
        none = λ before behind e starts.
            let low = passed.none before behind e starts in
            let long : length (front ++ byte ∷ []) ≡ length front + 1 = length-append front (byte ∷ []) in
            let other : ¬ (length front ≡ length before) = λ same.
            let cut = same_cut front (byte ∷ after) before (line_feed ∷ behind) (sym parts ∙ e) same in
            let heads : byte ≡ line_feed = cc in
            let tails : after ≡ behind = cc in
            none heads (rw tails starts) in
            omega arith;
      },
    )

-- Bytes have only one way to skip all empty lines at their start.
pub blank_unique : (a b : List LineEnd) (x y : List ℕ) → print_blank a ++ x ≡ print_blank b ++ y
    → ¬ (StartsWithEmptyLine x) → ¬ (StartsWithEmptyLine y) → (a ≡ b) × (x ≡ y)
blank_unique [] [] x y e p q = (refl, e)
blank_unique [] (end ∷ b) x y e p q = absurd (p (end, print_blank b ++ y, e ∙ append_assoc (print_end end) (print_blank b) y))
blank_unique (end ∷ a) [] x y e p q = absurd (q (end, print_blank a ++ x, sym e ∙ append_assoc (print_end end) (print_blank a) x))
blank_unique (crlf ∷ a) (crlf ∷ b) x y e p q =
    let tails : print_blank a ++ x ≡ print_blank b ++ y = cc in
    let rest = blank_unique a b x y tails p q in
    (ap (λ t. crlf ∷ t) rest.0, rest.1)
blank_unique (lf ∷ a) (lf ∷ b) x y e p q =
    let tails : print_blank a ++ x ≡ print_blank b ++ y = cc in
    let rest = blank_unique a b x y tails p q in
    (ap (λ t. lf ∷ t) rest.0, rest.1)
blank_unique (crlf ∷ a) (lf ∷ b) x y e p q = let wrong : carriage_return ≡ line_feed = cc in absurd (omega arith)
blank_unique (lf ∷ a) (crlf ∷ b) x y e p q = let wrong : line_feed ≡ carriage_return = cc in absurd (omega arith)

-- A head has at least two bytes, so the bytes after it don't affect how it begins.
pub head_size : (head : List ℕ) → EndsWithEmptyLine head → 2 ≤ length head
head_size head ends =
    let long = ap length ends.2 in
    let one = print_end_len ends.1 in
    omega (arith, long, one, length-append ends.0 (line_feed ∷ print_end ends.1))

-- Whether bytes begin with an empty line depends only on the first two bytes.
starts_in_front : (head rest : List ℕ) → 2 ≤ length head → StartsWithEmptyLine (head ++ rest) → StartsWithEmptyLine head
starts_in_front [] rest size starts = absurd (omega arith)
starts_in_front (x ∷ []) rest size starts = absurd (omega arith)
starts_in_front (x ∷ y ∷ head) rest size starts = by_end starts.0 starts.1 starts.2
  where
    by_end : (end : LineEnd) (after : List ℕ) → x ∷ y ∷ (head ++ rest) ≡ print_end end ++ after → StartsWithEmptyLine (x ∷ y ∷ head)
    by_end crlf after e = (crlf, head, cc)
    by_end lf after e = (lf, y ∷ head, cc)

-- Bytes that begin with a head don't begin with an empty line.
pub head_starts : (head rest : List ℕ) → ¬ (StartsWithEmptyLine head) → IsMessageHead head → ¬ (StartsWithEmptyLine (head ++ rest))
head_starts head rest none is_head starts = none (starts_in_front head rest (head_size head is_head.ends) starts)

-- The head found in the first `k` bytes is the head of all bytes.
head_in_window : (bytes text head tail : List ℕ) (skipped : List LineEnd) (k n : ℕ) → k ≤ 16384
    → take k bytes ≡ print_blank skipped ++ text → ¬ (StartsWithEmptyLine text) → text ≡ head ++ tail → length head ≡ n → IsMessageHead head
    → HasHead bytes skipped (take n text) (drop (length (take k bytes) - length text + n) bytes)
head_in_window bytes text head tail skipped k n small window none split size is_head =
    let whole : bytes ≡ (print_blank skipped ++ head) ++ (tail ++ drop k bytes) =
    sym (take-append-drop k bytes) ∙ ap (λ t. t ++ drop k bytes) (window ∙ ap (λ t. print_blank skipped ++ t) split)
    ∙ append_assoc (print_blank skipped) (head ++ tail) (drop k bytes)
    ∙ ap (λ t. print_blank skipped ++ t) (append_assoc head tail (drop k bytes))
    ∙ sym (append_assoc (print_blank skipped) head (tail ++ drop k bytes)) in
    let text_size = ap length split ∙ length-append head tail in
    let window_size = ap length window ∙ length-append (print_blank skipped) text in
    let at : length (take k bytes) - length text + n ≡ length (print_blank skipped ++ head) =
    omega (arith, text_size, window_size, length-append (print_blank skipped) head) in
    let front : take n text ≡ head = ap (λ t. take n t) split ∙ ap (λ m. take m (head ++ tail)) (sym size) ∙ take-append_seam head tail in
    let back : drop (length (take k bytes) - length text + n) bytes ≡ tail ++ drop k bytes =
    ap (λ m. drop m bytes) at ∙ ap (λ t. drop (length (print_blank skipped ++ head)) t) whole
    ∙ drop-append_seam (print_blank skipped ++ head) (tail ++ drop k bytes) in
    rw (front, back) (record {
      parts = whole ∙ append_assoc (print_blank skipped) head (tail ++ drop k bytes);
      starts = λ starts. none (rw split (starts.0, starts.1 ++ tail, ap (λ t. t ++ tail) starts.2 ∙ append_assoc (print_end starts.0) starts.1 tail));
      is_head = is_head;
      size = omega (arith, text_size, window_size, length-take k bytes);
    })

-- If the first 16,384 bytes have no head, the bytes have none.
pub no_head_of_window : (bytes window text : List ℕ) (skipped : List LineEnd) (k : ℕ) → k ≡ min (length bytes) 16384
    → window ≡ take k bytes → window ≡ print_blank skipped ++ text → ¬ (StartsWithEmptyLine text)
    → ((part rest : List ℕ) → text ≡ part ++ rest → ¬ (EndsWithEmptyLine part)) → HasNoHead bytes
no_head_of_window bytes window text skipped k small is blank none absent others head rest has =
    let whole : take k bytes ++ drop k bytes ≡ (print_blank others ++ head) ++ rest =
    take-append-drop k bytes ∙ has.parts ∙ sym (append_assoc (print_blank others) head rest) in
    let sizes = ap length has.parts ∙ length-append (print_blank others) (head ++ rest) in
    elim (cuts (take k bytes) (drop k bytes) (print_blank others ++ head) rest whole) [
      | inl w ↦ found w.0 (w.1 ∙ append_assoc (print_blank others) head w.0)
      | inr w ↦
          let long = ap length w.1 ∙ length-append (take k bytes) w.0 in
          let nothing : w.0 ≡ [] = nothing_left w.0
          (omega (arith, sizes, long, has.size, length-append head rest, length-append (print_blank others) head, length-take k bytes)) in
          found [] (sym (append-nil (take k bytes)) ∙ ap (λ t. take k bytes ++ t) (sym nothing) ∙ sym w.1 ∙ sym (append-nil (print_blank others ++ head))
          ∙ append_assoc (print_blank others) head [])
    ]
  where
    found : (z : List ℕ) → take k bytes ≡ print_blank others ++ (head ++ z) → ⊥
    found z e =
        let same = blank_unique skipped others text (head ++ z) (sym blank ∙ is ∙ e) none (head_starts head z has.starts has.is_head) in
        absent head z same.1 has.is_head.ends

-- The same as `head_in_window`, in the form of the code, with names for the window and the parts.
pub head_of_window : (bytes window text head tail front back : List ℕ) (skipped : List LineEnd) (k n : ℕ) → k ≡ min (length bytes) 16384
    → window ≡ take k bytes → window ≡ print_blank skipped ++ text → ¬ (StartsWithEmptyLine text) → text ≡ head ++ tail → length head ≡ n → IsMessageHead head
    → front ≡ take n text → back ≡ drop (length window - length text + n) bytes → HasHead bytes skipped front back
head_of_window bytes window text head tail front back skipped k n small is_window blank none split size is_head is_front is_back =
    rw (is_front, is_back, is_window) (head_in_window bytes text head tail skipped k n (omega arith) (sym is_window ∙ blank) none split size is_head)

-- Bytes begin with at most one text that ends with its first empty line.
pub message_head_once : (head other rest last : List ℕ) → IsMessageHead head → IsMessageHead other → head ++ rest ≡ other ++ last
    → (head ≡ other) × (rest ≡ last)
message_head_once head other rest last is also e = elim (cuts head rest other last e) [
  | inl w ↦
      let none : w.0 ≡ [] = is.shortest other w.0 w.1 also.ends in
      (w.1 ∙ ap (λ t. other ++ t) none ∙ append-nil other, sym (w.2 ∙ ap (λ t. t ++ rest) none))
  | inr w ↦
      let none : w.0 ≡ [] = also.shortest head w.0 w.1 is.ends in
      (sym (w.1 ∙ ap (λ t. head ++ t) none ∙ append-nil head), w.2 ∙ ap (λ t. t ++ last) none)
]
