-- The first of two ASCII characters, found among the bytes of a text.
use Rattle.std.proofs.Common.{◌≡◌, ◌≢◌, ℕ, ◌+◌, ◌<◌, ◌⊎◌, true, eqb, List, [], ◌∷◌, ◌++◌, length, drop, take, get_or, Option, Some, None, refl, sym, ap, ◌∙◌, inl, inr, arith}
use Rattle.std.specs.Prelude.{chars, IsUtf8, IsCharBoundary, encode_utf8, encode_utf8_all}
use Rattle.std.specs.Option.{unwrap_or}
use Rattle.std.proofs.lemmas.Str.{chars-nil, chars_past_char, encodes-chars, encode_ascii, IsUtf8-take, IsUtf8-drop, IsCharBoundary-end, IsCharBoundary-before_ascii, chars-append}
use Rattle.std.proofs.lemmas.List.{get_or-append-add, get_or-take, length-take, length-append, drop_all, drop_more, take-append-drop}
use Rattle.std.proofs.lemmas.Bool.{or_cases, or_left, or_right}
use Rattle.std.proofs.lemmas.Bool.Decides.{Decides-eqb}
use Rattle.memchr.specs.Find.{IsFirstByte, is_byte2}
use Rattle.tfs_addr.specs.Steps.{HasNeither, MayBeginWith}
use Rattle.tfs_addr.proofs.ByteLemmas.{HasNeither-from_places}

module _ (a b : ℕ) (small_a : a < 128) (small_b : b < 128) where
  -- The result of searching the bytes for either character.
  abbrev pub FindsEither : List ℕ → Option ℕ → Type 0
  FindsEither bs r = IsFirstByte (is_byte2 a b) bs r

  -- No byte is either character.
  abbrev NoByte : List ℕ → Type 0
  NoByte bs = (k : ℕ) → k < length bs → is_byte2 a b (get_or bs k 0) ≡ true → ⊥

  -- If no byte is either character, the first character isn't.
  no_byte-head : (c : ℕ) (bs : List ℕ) (m : ℕ) → NoByte (encode_utf8 c ++ bs) → m < 128 → is_byte2 a b m ≡ true → c ≢ m
  no_byte-head c bs m none small test e =
      let front : encode_utf8 c ++ bs ≡ m ∷ bs = ap (λ (x : ℕ). encode_utf8 x ++ bs) e ∙ ap (λ (t : List ℕ). t ++ bs) (encode_ascii m small) in
      let free = rw front at none in
      free 0 (omega arith) test

  -- If no byte is either character, none of the later bytes is.
  no_byte-tail : (front bs : List ℕ) → NoByte (front ++ bs) → NoByte bs
  no_byte-tail front bs none k low test =
      none (length front + k) (omega (arith, length-append front bs)) (rw get_or-append-add test)

  -- The test is true for the first of the two.
  is_a : is_byte2 a b a ≡ true
  is_a = or_left (eqb a a) (eqb a b) ((Decides-eqb a a).1 refl)

  -- The test is true for the second of the two.
  is_b : is_byte2 a b b ≡ true
  is_b = or_right (eqb b a) (eqb b b) ((Decides-eqb b b).1 refl)

  -- If no byte of the characters is either of the two, no character is.
  neither-bytes : (cs : List ℕ) → NoByte (encode_utf8_all cs) → HasNeither a b cs
  neither-bytes [] none = tt
  neither-bytes (c ∷ cs) none = (
    (no_byte-head c (encode_utf8_all cs) a none small_a is_a, no_byte-head c (encode_utf8_all cs) b none small_b is_b),
    neither-bytes cs (no_byte-tail (encode_utf8 c) (encode_utf8_all cs) none),
  )

  -- If no byte of a text is either of the two, no character is.
  neither-text : (bs : List ℕ) → IsUtf8 bs → NoByte bs → HasNeither a b (chars bs)
  neither-text bs u none = neither-bytes (chars bs) (rw (encodes-chars bs u) none)

  -- A byte for which the test is true is one of the two.
  either_is : (c : ℕ) → is_byte2 a b c ≡ true → (c ≡ a) ⊎ (c ≡ b)
  either_is c h =
      elim (or_cases (eqb c a) (eqb c b) h) [
        | inl e ↦ inl ((Decides-eqb c a).0 e)
        | inr e ↦ inr ((Decides-eqb c b).0 e)
      ]

  -- A byte for which the test is true is ASCII.
  either_small : (c : ℕ) → is_byte2 a b c ≡ true → c < 128
  either_small c h = elim (either_is c h) [ inl e ↦ omega arith | inr e ↦ omega arith ]

  -- The position that the search finds is a character boundary.
  pub either-boundary : (bs : List ℕ) (r : Option ℕ) → IsUtf8 bs → FindsEither bs r → IsCharBoundary bs (unwrap_or r (length bs))
  either-boundary bs None u h = IsCharBoundary-end bs
  either-boundary bs (Some k) u h = IsCharBoundary-before_ascii bs k h.0.high (either_small (get_or bs k 0) h.1)

  -- The test is false for each byte before that position.
  front_free : (bs : List ℕ) (r : Option ℕ) → FindsEither bs r → (k : ℕ) → k < unwrap_or r (length bs)
      → is_byte2 a b (get_or bs k 0) ≡ true → ⊥
  front_free bs None h k low = h k (omega arith) low
  front_free bs (Some n) h k low = h.0.before k (omega arith) low

  -- No byte before that position is either character.
  front-no_byte : (bs : List ℕ) (r : Option ℕ) → FindsEither bs r → NoByte (take (unwrap_or r (length bs)) bs)
  front-no_byte bs r h k low test =
      let n = unwrap_or r (length bs) in
      let inside : k < n = omega (arith, length-take n bs) in
      front_free bs r h k inside (rw (get_or-take n bs k 0 inside) at test)

  -- The bytes before that position contain neither character.
  pub either-front_bytes : (bs : List ℕ) (r : Option ℕ) → FindsEither bs r → HasNeither a b (take (unwrap_or r (length bs)) bs)
  either-front_bytes bs r h =
      HasNeither-from_places a b (take (unwrap_or r (length bs)) bs)
      (λ k low. (λ e. front-no_byte bs r h k low (rw e is_a), λ e. front-no_byte bs r h k low (rw e is_b)))

  -- The bytes before that position are UTF-8, and so are the bytes from it on.
  pub either-texts : (bs : List ℕ) (r : Option ℕ) → IsUtf8 bs → FindsEither bs r
      → IsUtf8 (take (unwrap_or r (length bs)) bs) × IsUtf8 (drop (unwrap_or r (length bs)) bs)
  either-texts bs r u h =
      let n = unwrap_or r (length bs) in
      (IsUtf8-take bs n u (either-boundary bs r u h), IsUtf8-drop bs n u (either-boundary bs r u h))

  -- The characters before that position contain neither of the two.
  pub either-front : (bs : List ℕ) (r : Option ℕ) → IsUtf8 bs → FindsEither bs r → HasNeither a b (chars (take (unwrap_or r (length bs)) bs))
  either-front bs r u h =
      neither-text (take (unwrap_or r (length bs)) bs) (either-texts bs r u h).0 (front-no_byte bs r h)

  -- A text whose first byte is one of the two begins with that character.
  either-head : (bs rest : List ℕ) (c : ℕ) → IsUtf8 bs → bs ≡ c ∷ rest → is_byte2 a b c ≡ true → MayBeginWith a b (chars bs)
  either-head bs rest c u e test =
      let front : bs ≡ encode_utf8 c ++ rest = e ∙ ap (λ (t : List ℕ). t ++ rest) (sym (encode_ascii c (either_small c test))) in
      rw (chars_past_char bs rest c u front) (either_is c test)

  -- The characters from that position on are none, or begin with one of the two.
  pub either-back : (bs : List ℕ) (r : Option ℕ) → IsUtf8 bs → FindsEither bs r → MayBeginWith a b (chars (drop (unwrap_or r (length bs)) bs))
  either-back bs None u h = rw (drop_all (length bs) bs (omega arith), chars-nil) tt
  either-back bs (Some k) u h =
      either-head (drop k bs) (drop (k + 1) bs) (get_or bs k 0) (either-texts bs (Some k) u h).1 (drop_more bs k 0 h.0.high) h.1

  -- The characters before that position and those from it on are the characters of the text.
  pub either-whole : (bs : List ℕ) (r : Option ℕ) → IsUtf8 bs → FindsEither bs r
      → chars bs ≡ chars (take (unwrap_or r (length bs)) bs) ++ chars (drop (unwrap_or r (length bs)) bs)
  either-whole bs r u h =
      let i = unwrap_or r (length bs) in
      ap chars (sym (take-append-drop i bs)) ∙ chars-append (take i bs) (drop i bs) (either-texts bs r u h).0
