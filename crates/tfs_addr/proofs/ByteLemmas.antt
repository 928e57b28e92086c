-- Keys are read as bytes. No byte of a non-ASCII character equals an ASCII mark, so keys end at the
-- same position as in the characters.
use Rattle.std.proofs.Common.{◌≡◌, ◌≢◌, ℕ, suc, ◌+◌, ◌<◌, true, false, eqb, List, [], ◌∷◌, ◌++◌, length, get_or, Option, Some, None, refl, sym, ap, ◌∙◌, inl, inr, arith, append-nil}
use Rattle.std.specs.Prelude.{chars, encode_utf8, encode_utf8_all, option_map}
use Rattle.std.specs.List.{prefix_len}
use Rattle.std.specs.Char.{is_ascii_digit}
use Rattle.std.proofs.lemmas.Str.{chars-nil, encode_ascii, inside_one, length-encode, len_utf8_bounds}
use Rattle.std.proofs.lemmas.Bool.{cases_Bool, cases_eq}
use Rattle.std.proofs.lemmas.Bool.Decides.{nat_tests}
use Rattle.tfs_addr.specs.Address.{closing, quote, backslash}
use Rattle.tfs_addr.specs.Steps.{HasNeither, rest_after, units_rest, key_rest, without_digits}
use Rattle.tfs_addr.proofs.EndLemmas.{closed, units_rest-nil, units_rest-quote, units_rest-plain, units_rest-escaped, units_rest-open, units_rest-front, key_rest-quote, key_rest-digit, key_rest-other}

-- An empty text has no characters.
pub chars-empty : (bs : List ℕ) → length bs ≡ 0 → chars bs ≡ []
chars-empty [] e = chars-nil
chars-empty (b ∷ bs) e = absurd (omega arith)

-- ---- The bytes of one character.

-- A character that has a byte below 128 is that byte.
encode-byte : (c k : ℕ) → k < length (encode_utf8 c) → get_or (encode_utf8 c) k 0 < 128 → c ≡ get_or (encode_utf8 c) k 0
encode-byte c k low small = inside_one c [] (encode_utf8 c) k (sym (append-nil (encode_utf8 c))) low small

-- If no element of a list is either of two numbers, the list has neither.
pub HasNeither-from_places : (a b : ℕ) (xs : List ℕ) → ((k : ℕ) → k < length xs → (get_or xs k 0 ≢ a) × (get_or xs k 0 ≢ b)) → HasNeither a b xs
HasNeither-from_places a b [] h = tt
HasNeither-from_places a b (x ∷ xs) h = (h 0 (omega arith), HasNeither-from_places a b xs (λ k low. h (suc k) (omega arith)))

-- A character's bytes don't contain a mark other than the character itself.
encode-other : (c m k : ℕ) → m < 128 → c ≢ m → k < length (encode_utf8 c) → get_or (encode_utf8 c) k 0 ≢ m
encode-other c m k small ne low e = ne (encode-byte c k low (omega arith) ∙ e)

-- A character's bytes contain neither of two marks other than the character itself.
encode-neither : (a b c : ℕ) → a < 128 → b < 128 → c ≢ a → c ≢ b → HasNeither a b (encode_utf8 c)
encode-neither a b c small_a small_b ne_a ne_b =
    HasNeither-from_places a b (encode_utf8 c) (λ k low. (encode-other c a k small_a ne_a low, encode-other c b k small_b ne_b low))

-- A list that isn't empty has a first element.
some-first : (xs : List ℕ) → 0 < length xs → (b : ℕ) × (bs : List ℕ) × (xs ≡ b ∷ bs)
some-first [] some = absurd (omega arith)
some-first (b ∷ bs) some = (b, bs, refl)

-- A character has a first byte.
encode-first : (c : ℕ) → (b : ℕ) × (bs : List ℕ) × (encode_utf8 c ≡ b ∷ bs)
encode-first c = some-first (encode_utf8 c) (omega (arith, length-encode c, len_utf8_bounds c))

-- No byte after a character's first is a mark.
after_first : (c m b : ℕ) (bs : List ℕ) (k : ℕ) → encode_utf8 c ≡ b ∷ bs → m < 128 → k < length bs → get_or bs k 0 ≢ m
after_first c m b bs k e small low is =
    let whole : length (encode_utf8 c) ≡ suc (length bs) = ap length e in
    let there : get_or (encode_utf8 c) (suc k) 0 ≡ get_or bs k 0 = ap (λ (t : List ℕ). get_or t (suc k) 0) e in
    let same : c ≡ get_or (encode_utf8 c) (suc k) 0 = encode-byte c (suc k) (omega arith) (omega arith) in
    let one : length (encode_utf8 c) ≡ 1 = ap length (encode_ascii c (omega arith)) in
    omega arith

-- No byte after a character's first is either of two marks.
after_first-neither : (a b c first : ℕ) (bs : List ℕ) → encode_utf8 c ≡ first ∷ bs → a < 128 → b < 128 → HasNeither a b bs
after_first-neither a b c first bs e small_a small_b =
    HasNeither-from_places a b bs (λ k low. (after_first c a first bs k e small_a low, after_first c b first bs k e small_b low))

-- ---- Units.

-- The bytes of the characters, or None.
abbrev pub encoded : Option (List ℕ) → Option (List ℕ)
encoded o = option_map encode_utf8_all o

-- A character other than the marks doesn't change where units end.
units-pass : (c : ℕ) (bs : List ℕ) → c ≢ quote → c ≢ backslash → units_rest (encode_utf8 c ++ bs) ≡ units_rest bs
units-pass c bs q b = units_rest-front (encode_utf8 c) bs (encode-neither quote backslash c (omega arith) (omega arith) q b)

-- A backslash escapes all bytes of the character after it.
units-escape : (d : ℕ) (bs : List ℕ) → units_rest (backslash ∷ (encode_utf8 d ++ bs)) ≡ units_rest bs
units-escape d bs =
    let f = encode-first d in
    ap (λ (t : List ℕ). units_rest (backslash ∷ (t ++ bs))) f.2
    ∙ units_rest-escaped f.0 (f.1 ++ bs)
    ∙ units_rest-front f.1 bs (after_first-neither quote backslash d f.0 f.1 f.2 (omega arith) (omega arith))

-- The first byte of an ASCII character is the character.
encode-mark : (c m : ℕ) (bs : List ℕ) → c ≡ m → m < 128 → encode_utf8 c ++ bs ≡ m ∷ bs
encode-mark c m bs e small = ap (λ (x : ℕ). encode_utf8 x ++ bs) e ∙ ap (λ (t : List ℕ). t ++ bs) (encode_ascii m small)

-- Units end at the same position in the bytes as in the characters.
units_rest-encodes : (cs : List ℕ) → units_rest (encode_utf8_all cs) ≡ encoded (units_rest cs)
units_rest-encodes [] = units_rest-nil ∙ ap encoded (sym units_rest-nil)
units_rest-encodes (c ∷ []) =
    elim (cases_eq c quote) [
      | inl e ↦
          ap units_rest (encode-mark c quote [] e (omega arith)) ∙ units_rest-quote []
          ∙ ap encoded (sym (ap (λ (x : ℕ). units_rest (x ∷ [])) e ∙ units_rest-quote []))
      | inr q ↦ elim (cases_eq c backslash) [
        | inl e ↦
            ap units_rest (encode-mark c backslash [] e (omega arith)) ∙ units_rest-open
            ∙ ap encoded (sym (ap (λ (x : ℕ). units_rest (x ∷ [])) e ∙ units_rest-open))
        | inr b ↦ units-pass c [] q b ∙ units_rest-nil ∙ ap encoded (sym (units_rest-plain c [] q b ∙ units_rest-nil))
      ]
    ]
units_rest-encodes (c ∷ d ∷ cs) =
    elim (cases_eq c quote) [
      | inl e ↦
          ap units_rest (encode-mark c quote (encode_utf8_all (d ∷ cs)) e (omega arith)) ∙ units_rest-quote (encode_utf8_all (d ∷ cs))
          ∙ ap encoded (sym (ap (λ (x : ℕ). units_rest (x ∷ d ∷ cs)) e ∙ units_rest-quote (d ∷ cs)))
      | inr q ↦ elim (cases_eq c backslash) [
        | inl e ↦
            ap units_rest (encode-mark c backslash (encode_utf8_all (d ∷ cs)) e (omega arith)) ∙ units-escape d (encode_utf8_all cs)
            ∙ units_rest-encodes cs
            ∙ ap encoded (sym (ap (λ (x : ℕ). units_rest (x ∷ d ∷ cs)) e ∙ units_rest-escaped d cs))
        | inr b ↦
            units-pass c (encode_utf8_all (d ∷ cs)) q b ∙ units_rest-encodes (d ∷ cs)
            ∙ ap encoded (sym (units_rest-plain c (d ∷ cs) q b))
      ]
    ]

-- ---- Digits and brackets.

-- The bytes after a mark at the front are those of the characters after it.
rest_after-encodes : (m : ℕ) (cs : List ℕ) → m < 128 → rest_after m (encode_utf8_all cs) ≡ encoded (rest_after m cs)
rest_after-encodes m [] small = refl
rest_after-encodes m (c ∷ cs) small =
    elim (cases_eq c m) [
      | inl e ↦
          let test : eqb c m ≡ true = grind (arith, nat_tests) in
          let same : eqb m m ≡ true = grind (arith, nat_tests) in
          rw (encode-mark c m (encode_utf8_all cs) e small, test, same) refl
      | inr ne ↦
          let f = encode-first c in
          let test : eqb c m ≡ false = grind (arith, nat_tests) in
          let low : 0 < length (encode_utf8 c) = omega (arith, ap length f.2) in
          let first : get_or (encode_utf8 c) 0 0 ≡ f.0 = ap (λ (t : List ℕ). get_or t 0 0) f.2 in
          let other : f.0 ≢ m = λ is. encode-other c m 0 small ne low (first ∙ is) in
          let differs : eqb f.0 m ≡ false = grind (arith, nat_tests) in
          rw (f.2, differs, test) refl
    ]

-- The bytes after a key's closing bracket are those of the characters after it.
closed-encodes : (o : Option (List ℕ)) → closed (encoded o) ≡ encoded (closed o)
closed-encodes None = refl
closed-encodes (Some cs) = rest_after-encodes closing cs (omega arith)

-- A digit is ASCII.
digit-small : (c : ℕ) → is_ascii_digit c ≡ true → c < 128
digit-small c h = grind (arith, nat_tests)

-- A first digit is one of the digits at the beginning.
without_digits-digit : (c : ℕ) (cs : List ℕ) → is_ascii_digit c ≡ true → without_digits (c ∷ cs) ≡ without_digits cs
without_digits-digit c cs e =
    let one : 1 + prefix_len is_ascii_digit cs ≡ suc (prefix_len is_ascii_digit cs) = omega arith in
    rw (e, one) refl

-- If the first character is no digit, no digits are removed.
without_digits-other : (c : ℕ) (cs : List ℕ) → is_ascii_digit c ≡ false → without_digits (c ∷ cs) ≡ c ∷ cs
without_digits-other c cs e = rw e refl

-- The first byte of a character that is no digit is no digit.
first-no_digit : (c b : ℕ) (bs : List ℕ) → encode_utf8 c ≡ b ∷ bs → is_ascii_digit c ≡ false → is_ascii_digit b ≡ false
first-no_digit c b bs e other =
    elim (cases_Bool (is_ascii_digit b)) [
      | inr free ↦ free
      | inl is ↦
          let low : 0 < length (encode_utf8 c) = omega (arith, ap length e) in
          let first : get_or (encode_utf8 c) 0 0 ≡ b = ap (λ (t : List ℕ). get_or t 0 0) e in
          let small = digit-small b is in
          let same : c ≡ b = encode-byte c 0 low (omega arith) ∙ first in
          absurd (cc (ap is_ascii_digit same, other, is))
    ]

-- Digits end at the same position in the bytes as in the characters.
without_digits-encodes : (cs : List ℕ) → without_digits (encode_utf8_all cs) ≡ encode_utf8_all (without_digits cs)
without_digits-encodes [] = refl
without_digits-encodes (c ∷ cs) =
    elim (cases_Bool (is_ascii_digit c)) [
      | inl is ↦
          ap without_digits (encode-mark c c (encode_utf8_all cs) refl (digit-small c is))
          ∙ without_digits-digit c (encode_utf8_all cs) is ∙ without_digits-encodes cs
          ∙ ap encode_utf8_all (sym (without_digits-digit c cs is))
      | inr free ↦
          let f = encode-first c in
          let split : encode_utf8 c ++ encode_utf8_all cs ≡ f.0 ∷ (f.1 ++ encode_utf8_all cs) = ap (λ (t : List ℕ). t ++ encode_utf8_all cs) f.2 in
          ap without_digits split
          ∙ without_digits-other f.0 (f.1 ++ encode_utf8_all cs) (first-no_digit c f.0 f.1 f.2 free)
          ∙ sym split
          ∙ ap encode_utf8_all (sym (without_digits-other c cs free))
    ]

-- ---- Keys.

-- A key that begins with a digit ends at the same position in the bytes as in the characters.
key-digit : (c : ℕ) (cs : List ℕ) → c ≢ quote → is_ascii_digit c ≡ true
    → key_rest (encode_utf8_all (c ∷ cs)) ≡ encoded (key_rest (c ∷ cs))
key-digit c cs q is =
    ap key_rest (encode-mark c c (encode_utf8_all cs) refl (digit-small c is))
    ∙ key_rest-digit c (encode_utf8_all cs) q is
    ∙ ap (rest_after closing) (without_digits-encodes cs)
    ∙ rest_after-encodes closing (without_digits cs) (omega arith)
    ∙ ap encoded (sym (key_rest-digit c cs q is))

-- Bytes and characters that begin with neither a quote nor a digit are both no key.
key-other : (c : ℕ) (cs : List ℕ) → c ≢ quote → is_ascii_digit c ≡ false
    → key_rest (encode_utf8_all (c ∷ cs)) ≡ encoded (key_rest (c ∷ cs))
key-other c cs q free =
    let f = encode-first c in
    let low : 0 < length (encode_utf8 c) = omega (arith, ap length f.2) in
    let first : get_or (encode_utf8 c) 0 0 ≡ f.0 = ap (λ (t : List ℕ). get_or t 0 0) f.2 in
    let other : f.0 ≢ quote = λ is. encode-other c quote 0 (omega arith) q low (first ∙ is) in
    ap (λ (t : List ℕ). key_rest (t ++ encode_utf8_all cs)) f.2
    ∙ key_rest-other f.0 (f.1 ++ encode_utf8_all cs) other (first-no_digit c f.0 f.1 f.2 free)
    ∙ ap encoded (sym (key_rest-other c cs q free))

-- Keys end at the same position in the bytes as in the characters.
pub key_rest-encodes : (cs : List ℕ) → key_rest (encode_utf8_all cs) ≡ encoded (key_rest cs)
key_rest-encodes [] = refl
key_rest-encodes (c ∷ cs) =
    elim (cases_eq c quote) [
      | inl e ↦
          ap key_rest (encode-mark c quote (encode_utf8_all cs) e (omega arith)) ∙ key_rest-quote (encode_utf8_all cs)
          ∙ ap closed (units_rest-encodes cs) ∙ closed-encodes (units_rest cs)
          ∙ ap encoded (sym (ap (λ (x : ℕ). key_rest (x ∷ cs)) e ∙ key_rest-quote cs))
      | inr q ↦ elim (cases_Bool (is_ascii_digit c)) [
        | inl is ↦ key-digit c cs q is
        | inr free ↦ key-other c cs q free
      ]
    ]
