-- For each piece of the grammar it is decidable whether a text begins with it.
use Rattle.std.proofs.Common.{◌≡◌, ◌≤◌, ◌<◌, ◌+◌, ◌⊎◌, ◌==◌, ◌∙◌, ℕ, zero, suc, List, [], ◌∷◌, ◌++◌, length, drop, nat_eq, Bool, true, false}
use Rattle.std.proofs.Common.{codes, refl, sym, ap, subst, inl, inr, arith, append_assoc}
use Rattle.std.specs.List.{starts_with}
use Rattle.std.specs.Str.{IsUtf8, is_utf8}
use Rattle.std.proofs.lemmas.Bool.{eqb-true}
use Rattle.std.proofs.lemmas.Bool.Decides.{nat_tests}
use Rattle.std.proofs.lemmas.List.Elements.{All-nil, All-cons, All-head, All-tail}
use Rattle.std.proofs.lemmas.Str.{IsUtf8-from_is_utf8, is_utf8-from_IsUtf8}
use Rattle.httparse.specs.Grammar.{is_uri_byte, is_value_byte, AllPass, LineEnd, crlf, lf, print_end, print_blank}
use Rattle.httparse.specs.Pieces.{Piece, Begins, Then, Stops, is_newline, Newline, Blank, Run, Word, Target, Version, Text}
use Rattle.httparse.proofs.ChunkLemmas.{Run_deterministic}
use Rattle.httparse.proofs.PieceLemmas.{IsDeterministic, Newline_deterministic, Word_deterministic}
use Rattle.httparse.proofs.PieceLemmas.{newline_not_stopped}
use Rattle.tfs_framing.proofs.PrefixLemmas.{front_split, front_joined}

-- Equality of two numbers is decidable.
pub same_or_not : (a b : ℕ) → (a ≡ b) ⊎ ¬ (a ≡ b)
same_or_not a b = by (a == b) refl
  where
    by : (v : Bool) → (a == b) ≡ v → (a ≡ b) ⊎ ¬ (a ≡ b)
    by true e = inl (eqb-true a b e)
    by false e = inr (λ same. grind (arith, nat_tests))

-- It is decidable for every text whether it begins with the piece.
abbrev pub IsDecided : {A : Type 0} → Piece A → Type 0
IsDecided G = (text : List ℕ) → Begins G text ⊎ ¬ (Begins G text)

-- Two decidable pieces in sequence are decidable.
pub then_decided : {A B : Type 0} {G : Piece A} {H : Piece B} → IsDeterministic G → IsDecided G → IsDecided H → IsDecided (Then G H)
then_decided {G} {H} det g h text = elim (g text) [
  | inl x ↦ elim (h x.1) [
    | inl y ↦ inl ((x.0, y.0), y.1, (x.1, x.2, y.2))
    | inr none ↦ inr (λ w.
        let same = det.unique w.0.0 x.0 text w.2.0 x.1 w.2.1 x.2 in
        none (w.0.1, w.1, subst (λ (m : List ℕ). H w.0.1 m w.1) same.1 w.2.2))
  ]
  | inr none ↦ inr (λ w. none (w.0.0, w.2.0, w.2.1))
]

-- The empty text doesn't begin with a line end.
pub nothing_begins : ¬ (Begins Newline [])
nothing_begins w = by w.0 w.1 w.2
  where
    by : (end : LineEnd) (rest : List ℕ) → ¬ ([] ≡ print_end end ++ rest)
    by crlf rest e = cc
    by lf rest e = cc

-- It is decidable whether bytes begin with a given byte.
pub first_decided : (b : ℕ) (text : List ℕ) → ((rest : List ℕ) × (text ≡ b ∷ rest)) ⊎ ¬ ((rest : List ℕ) × (text ≡ b ∷ rest))
first_decided b [] = inr (λ w. let e = w.1 in cc)
first_decided b (c ∷ text) = elim (same_or_not c b) [
  | inl is ↦ inl (text, ap (λ d. d ∷ text) is)
  | inr other ↦ inr (λ w. let e = w.1 in other (cc))
]

-- It is decidable whether a text begins with CR LF.
pub line_end_decided : (text : List ℕ) → ((rest : List ℕ) × (text ≡ print_end crlf ++ rest)) ⊎ ¬ ((rest : List ℕ) × (text ≡ print_end crlf ++ rest))
line_end_decided text = elim (first_decided 13 text) [
  | inl x ↦ elim (first_decided 10 x.0) [
    | inl y ↦ inl (y.0, x.1 ∙ ap (λ t. 13 ∷ t) y.1)
    | inr none ↦ inr (λ w. none (w.0, let one = x.1 in let two = w.1 in cc))
  ]
  | inr none ↦ inr (λ w. none (10 ∷ w.0, w.1))
]

-- It is decidable whether a text begins with a line end.
pub newline_decided : IsDecided Newline
newline_decided text = elim (first_decided 10 text) [
  | inl x ↦ inl (lf, x.0, x.1)
  | inr not_lf ↦ elim (line_end_decided text) [
    | inl x ↦ inl (crlf, x.0, x.1)
    | inr not_crlf ↦ inr (λ w. none not_lf not_crlf w.0 w.1 w.2)
  ]
]
  where
    none : ¬ ((rest : List ℕ) × (text ≡ 10 ∷ rest)) → ¬ ((rest : List ℕ) × (text ≡ print_end crlf ++ rest))
        → (end : LineEnd) (rest : List ℕ) → ¬ (text ≡ print_end end ++ rest)
    none not_lf not_crlf crlf rest e = not_crlf (rest, e)
    none not_lf not_crlf lf rest e = not_lf (rest, e)

-- It is decidable whether the first byte of a text fails the test.
stops_decided : (test : ℕ → Bool) (text : List ℕ) → Stops test text ⊎ ¬ (Stops test text)
stops_decided test [] = inr (λ stops. stops)
stops_decided test (b ∷ text) = by (test b) refl
  where
    by : (v : Bool) → test b ≡ v → (test b ≡ false) ⊎ ¬ (test b ≡ false)
    by true e = inr (λ fails. cc)
    by false e = inl e

-- The rest after a line end is shorter than the text.
pub longer : (end : LineEnd) (rest left : List ℕ) → left ≡ print_end end ++ rest → length rest < length left
longer crlf rest left e = let same = ap (λ (t : List ℕ). length t) e in omega arith
longer lf rest left e = let same = ap (λ (t : List ℕ). length t) e in omega arith

-- It is decidable whether a text is empty lines followed by something else.
pub blank_decided : IsDecided Blank
blank_decided text = within (length text) text (omega arith)
  where
    at_once : (left : List ℕ) → ¬ (Begins Newline left) → Begins Blank left ⊎ ¬ (Begins Blank left)
    at_once left none = elim (stops_decided is_newline left) [
      | inl stops ↦ inl ([], left, (refl, stops))
      | inr goes_on ↦ inr (λ w. by w.0 w.1 w.2.0 w.2.1 none goes_on)
    ]
      where
        by : (ends : List LineEnd) (rest : List ℕ) → left ≡ print_blank ends ++ rest → Stops is_newline rest → ¬ (Begins Newline left)
            → ¬ (¬ (Stops is_newline left))
        by [] rest e stops none goes_on = goes_on (subst (Stops is_newline) (sym e) stops)
        by (end ∷ ends) rest e stops none goes_on = none (end, print_blank ends ++ rest, e ∙ append_assoc (print_end end) (print_blank ends) rest)

    within : (n : ℕ) (left : List ℕ) → length left ≤ n → Begins Blank left ⊎ ¬ (Begins Blank left)
    within zero [] few = at_once [] nothing_begins
    within zero (b ∷ left) few = absurd (omega arith)
    within (suc n) left few = elim (newline_decided left) [
      | inr none ↦ at_once left none
      | inl x ↦ elim (within n x.1 (let more = longer x.0 x.1 left x.2 in omega arith)) [
        | inl y ↦ inl (x.0 ∷ y.0, y.1, (x.2 ∙ ap (λ t. print_end x.0 ++ t) y.2.0 ∙ sym (append_assoc (print_end x.0) (print_blank y.0) y.1), y.2.1))
        | inr none ↦ inr (λ w. by x.0 x.1 x.2 none w.0 w.1 w.2.0 w.2.1)
      ]
    ]
      where
        by : (end : LineEnd) (rest : List ℕ) → left ≡ print_end end ++ rest → ¬ (Begins Blank rest)
            → (ends : List LineEnd) (last : List ℕ) → left ≡ print_blank ends ++ last → ¬ (Stops is_newline last)
        by end rest e none [] last same stops = newline_not_stopped end rest left (sym e) (subst (Stops is_newline) (sym same) stops)
        by end rest e none (first ∷ ends) last same stops =
            let one = Newline_deterministic.unique end first left rest (print_blank ends ++ last) e
            (same ∙ append_assoc (print_end first) (print_blank ends) last) in
            none (ends, last, (one.1, stops))

-- It is decidable whether a text is bytes that pass a test followed by one that fails it.
pub run_decided : (test : ℕ → Bool) → IsDecided (Run test)
run_decided test [] = inr (λ w. none w.0 w.1 w.2.1 w.2.2)
  where
    none : (word rest : List ℕ) → [] ≡ word ++ rest → ¬ (Stops test rest)
    none [] rest e stops = subst (Stops test) (sym e) stops
    none (c ∷ word) rest e stops = cc
run_decided test (b ∷ text) = by (test b) refl (run_decided test text)
  where
    longer : (word rest : List ℕ) → AllPass test word → b ∷ text ≡ word ++ rest → Stops test rest → ¬ (Begins (Run test) text) → ¬ (test b ≡ true)
    longer [] rest all e stops none is = let fails : test b ≡ false = subst (Stops test) (sym e) stops in cc
    longer (c ∷ word) rest all e stops none is = none (word, rest, (All-tail (λ d. test d ≡ true) c word all, cc, stops))

    by : (v : Bool) → test b ≡ v → Begins (Run test) text ⊎ ¬ (Begins (Run test) text) → Begins (Run test) (b ∷ text) ⊎ ¬ (Begins (Run test) (b ∷ text))
    by true e behind = elim behind [
      | inl x ↦ inl (b ∷ x.0, x.1, (All-cons (λ c. test c ≡ true) b x.0 e x.2.0, ap (λ t. b ∷ t) x.2.1, x.2.2))
      | inr none ↦ inr (λ w. longer w.0 w.1 w.2.0 w.2.1 w.2.2 none e)
    ]
    by false e behind = inl ([], b ∷ text, (All-nil (λ c. test c ≡ true), refl, e))

-- Bytes that pass the test are followed by the byte `stop`.
abbrev Spans : (ℕ → Bool) → ℕ → List ℕ → Type 0
Spans test stop text = (word : List ℕ) × (rest : List ℕ) × AllPass test word × (text ≡ word ++ stop ∷ rest)

-- This is decidable if `stop` fails the test.
pub span_decided : (test : ℕ → Bool) (stop : ℕ) → test stop ≡ false → (text : List ℕ) → Spans test stop text ⊎ ¬ (Spans test stop text)
span_decided test stop fails text = elim (run_decided test text) [
  | inl x ↦ elim (first_decided stop x.1) [
    | inl y ↦ inl (x.0, y.0, x.2.0, x.2.1 ∙ ap (λ t. x.0 ++ t) y.1)
    | inr none ↦ inr (λ w. none (w.1, ((Run_deterministic test).unique x.0 w.0 text x.1 (stop ∷ w.1) x.2 (w.2, w.3, fails)).1))
  ]
  | inr none ↦ inr (λ w. none (w.0, stop ∷ w.1, (w.2, w.3, fails)))
]

-- It is decidable whether a text begins with a word and the byte that ends it.
pub word_decided : (test : ℕ → Bool) (stop : ℕ) → test stop ≡ false → IsDecided (Word test stop)
word_decided test stop fails text = elim (span_decided test stop fails text) [
  | inl x ↦ by x.0 x.1 x.2 x.3
  | inr none ↦ inr (λ w. none (w.0, w.1, w.2.1, w.2.2))
]
  where
    by : (word rest : List ℕ) → AllPass test word → text ≡ word ++ stop ∷ rest → Begins (Word test stop) text ⊎ ¬ (Begins (Word test stop) text)
    by [] rest all e = inr (λ w. none w.0 w.1 w.2.0 w.2.1 w.2.2)
      where
        none : (word left : List ℕ) → 0 < length word → AllPass test word → ¬ (text ≡ word ++ stop ∷ left)
        none [] left some all same = omega arith
        none (c ∷ word) left some all same =
            let passes : test c ≡ true = All-head (λ d. test d ≡ true) c word all in
            let is : stop ≡ c = cc in
            cc
    by (c ∷ word) rest all e = inl (c ∷ word, rest, (omega arith, all, e))

-- It is decidable whether a text begins with a target in UTF-8 and a space.
pub target_decided : IsDecided Target
target_decided text = elim (word_decided is_uri_byte 32 refl text) [
  | inl x ↦ by x.0 x.1 x.2 (is_utf8 x.0) refl
  | inr none ↦ inr (λ w. none (w.0, w.1, w.2.0))
]
  where
    by : (target rest : List ℕ) → Word is_uri_byte 32 target text rest → (v : Bool) → is_utf8 target ≡ v → Begins Target text ⊎ ¬ (Begins Target text)
    by target rest x true e = inl (target, rest, (x, IsUtf8-from_is_utf8 target e))
    by target rest x false e = inr (λ w.
        let same = (Word_deterministic is_uri_byte 32 refl).unique w.0 target text w.1 rest w.2.0 x in
        let valid : is_utf8 target ≡ true = is_utf8-from_IsUtf8 target (subst IsUtf8 same.0 w.2.1) in
        cc)

-- It is decidable whether a text begins with a version.
pub version_decided : IsDecided Version
version_decided text = by (starts_with nat_eq text (codes "HTTP/1.")) refl
  where
    digit : (left : List ℕ) → text ≡ codes "HTTP/1." ++ left → Begins Version text ⊎ ¬ (Begins Version text)
    digit [] e = inr (λ w. let same = e in let also = w.2.1 in cc)
    digit (d ∷ left) e = elim (same_or_not d 48) [
      | inl is ↦ inl (0, left, (omega arith, e ∙ ap (λ c. codes "HTTP/1." ++ c ∷ left) is))
      | inr not_zero ↦ elim (same_or_not d 49) [
        | inl is ↦ inl (1, left, (omega arith, e ∙ ap (λ c. codes "HTTP/1." ++ c ∷ left) is))
        | inr not_one ↦ inr (λ w.
            let small = w.2.0 in
            let also = w.2.1 in
            let is : d ≡ 48 + w.0 = cc in
            omega arith)
      ]
    ]

    by : (v : Bool) → starts_with nat_eq text (codes "HTTP/1.") ≡ v → Begins Version text ⊎ ¬ (Begins Version text)
    by true e = digit (drop 7 text) (front_split (codes "HTTP/1.") text e)
    by false e = inr (λ w.
        let joined : starts_with nat_eq text (codes "HTTP/1.") ≡ true =
        ap (λ t. starts_with nat_eq t (codes "HTTP/1.")) w.2.1 ∙ front_joined (codes "HTTP/1.") ((48 + w.0) ∷ w.1) in
        cc)

-- It is decidable whether a text begins with the bytes of a field value and a line end.
pub text_decided : IsDecided Text
text_decided text = elim (run_decided is_value_byte text) [
  | inl x ↦ elim (newline_decided x.1) [
    | inl y ↦ inl ((x.0, y.0), y.1, (x.2.0, x.2.1 ∙ ap (λ t. x.0 ++ t) y.2))
    | inr none ↦ inr (λ w.
        let same = (Run_deterministic is_value_byte).unique x.0 w.0.0 text x.1 (print_end w.0.1 ++ w.1) x.2 (w.2.0, w.2.1, ends w.0.1 w.1) in
        none (w.0.1, w.1, same.1))
  ]
  | inr none ↦ inr (λ w. none (w.0.0, print_end w.0.1 ++ w.1, (w.2.0, w.2.1, ends w.0.1 w.1)))
]
  where
    ends : (end : LineEnd) (rest : List ℕ) → Stops is_value_byte (print_end end ++ rest)
    ends crlf rest = refl
    ends lf rest = refl
