-- The key, or the fault, at the first bracket of a text.
use Rattle.std.proofs.Common.{◌≡◌, ◌≢◌, ◌-◌, ℕ, ◌<◌, ◌≤◌, List, [], ◌∷◌, ◌++◌, length, take, drop, get_or, Option, Some, None, refl, sym, ap, ap₂, ◌∙◌, inl, inr, arith, length-append, length-drop, take_all}
use Rattle.std.specs.Prelude.{chars, IsUtf8, IsCharBoundary, encode_utf8, encode_utf8_all}
use Rattle.std.proofs.Math.Seq.{drop-append_seam}
use Rattle.std.proofs.lemmas.Str.{encode_ascii, encodes-append, encodes-chars, chars_from_encodes, chars_past_char, IsUtf8-past_char, IsCharBoundary-at_seam}
use Rattle.std.proofs.lemmas.Option.{same_Some, none-some}
use Rattle.tfs_addr.specs.Address.{opening, closing, quote, backslash, print_piece, BeginsNoPiece}
use Rattle.tfs_addr.specs.Steps.{MayBeginWith, IsKeyThen, key_rest}
use Rattle.tfs_addr.proofs.ByteLemmas.{encoded, key_rest-encodes}
use Rattle.tfs_addr.proofs.EndLemmas.{key_rest-one_digit, key_rest-one_unit}
use Rattle.tfs_addr.proofs.PieceLemmas.{IsKeyThen-from_end, BeginsNoPiece-opening, BeginsNoPiece-closing}

-- Bytes are their first byte and the rest.
pub front_byte : (bs : List ℕ) (b : ℕ) → 0 < length bs → get_or bs 0 0 ≡ b → bs ≡ b ∷ take (length bs - 1) (drop 1 bs)
front_byte [] b some e = absurd (omega arith)
front_byte (x ∷ bs) b some e =
    ap₂ (λ (y : ℕ) (t : List ℕ). y ∷ t) e (sym (take_all (length (x ∷ bs) - 1) bs (omega arith)))

-- ---- A closing bracket.

-- A bracket that isn't an opening one is a closing one.
closing_bracket : (cs bs : List ℕ) → encode_utf8_all cs ≡ bs → 0 < length bs → MayBeginWith opening closing cs
    → ((rest : List ℕ) → bs ≢ opening ∷ rest) → (rest : List ℕ) × (cs ≡ closing ∷ rest)
closing_bracket [] bs e some h no_opening = absurd (omega (arith, ap length e))
closing_bracket (c ∷ cs) bs e some (inl is) no_opening =
    absurd (no_opening (encode_utf8_all cs)
    (sym e ∙ ap (λ (x : ℕ). encode_utf8 x ++ encode_utf8_all cs) is
    ∙ ap (λ (t : List ℕ). t ++ encode_utf8_all cs) (encode_ascii opening (omega arith))))
closing_bracket (c ∷ cs) bs e some (inr is) no_opening = (cs, ap (λ (x : ℕ). x ∷ cs) is)

-- A text that begins with a bracket, but not with an opening one, begins with a closing one.
pub closes : (bs : List ℕ) → IsUtf8 bs → 0 < length bs → MayBeginWith opening closing (chars bs)
    → ((rest : List ℕ) → bs ≢ opening ∷ rest) → (rest : List ℕ) × (chars bs ≡ closing ∷ rest)
closes bs u some h no_opening = closing_bracket (chars bs) bs (encodes-chars bs u) some h no_opening

-- No piece begins at a closing bracket.
pub closes-no_piece : (cs : List ℕ) → (rest : List ℕ) × (cs ≡ closing ∷ rest) → BeginsNoPiece cs
closes-no_piece cs h = rw h.1 (BeginsNoPiece-closing h.0)

-- ---- An opening bracket.

-- The part of a text after its opening bracket is a text.
opens : (bs key : List ℕ) → IsUtf8 bs → bs ≡ opening ∷ key → (chars bs ≡ opening ∷ chars key) × IsUtf8 key
opens bs key u e =
    let front : bs ≡ encode_utf8 opening ++ key = e ∙ ap (λ (t : List ℕ). t ++ key) (sym (encode_ascii opening (omega arith))) in
    (chars_past_char bs key opening u front, IsUtf8-past_char bs key opening u front)

-- A key ends at the same position in the bytes of a text as in its characters.
key_rest-text : (key : List ℕ) → IsUtf8 key → key_rest key ≡ encoded (key_rest (chars key))
key_rest-text key u = ap key_rest (sym (encodes-chars key u)) ∙ key_rest-encodes (chars key)

-- If there are bytes, they are the bytes of characters.
encoded-some : (o : Option (List ℕ)) (rest : List ℕ) → encoded o ≡ Some rest → (cs : List ℕ) × (o ≡ Some cs) × (encode_utf8_all cs ≡ rest)
encoded-some None rest e = absurd (none-some rest e)
encoded-some (Some cs) rest e = (cs, refl, same_Some (encode_utf8_all cs) rest e)

-- If the bytes are None, so are the characters.
encoded-none : (o : Option (List ℕ)) → encoded o ≡ None → o ≡ None
encoded-none None e = refl
encoded-none (Some cs) e = absurd (none-some (encode_utf8_all cs) (sym e))

-- The bytes of the last part of a text's characters are UTF-8.
utf8-back : (xs ys : List ℕ) → IsUtf8 (encode_utf8_all (xs ++ ys)) → IsUtf8 (encode_utf8_all ys)
utf8-back [] ys u = u
utf8-back (c ∷ xs) ys u = utf8-back xs ys (IsUtf8-past_char (encode_utf8_all (c ∷ (xs ++ ys))) (encode_utf8_all (xs ++ ys)) c u refl)

-- The text is a key followed by rest: front consists of the key's bytes, and rest is UTF-8.
pub record KeyEnds (text rest : List ℕ) : Type 0 where
  pub front : List ℕ
  pub split : text ≡ front ++ rest
  pub utf8 : IsUtf8 rest
  pub key : IsKeyThen (chars text) (chars rest)

-- If reading the key gives rest, the text is a key followed by rest.
pub KeyEnds-from_rest : (text key rest : List ℕ) → IsUtf8 text → text ≡ opening ∷ key → key_rest key ≡ Some rest → KeyEnds text rest
KeyEnds-from_rest text key rest u e k =
    let inside = opens text key u e in
    let end = encoded-some (key_rest (chars key)) rest (sym (key_rest-text key inside.1) ∙ k) in
    let read = IsKeyThen-from_end (chars key) end.0 end.1 in
    let whole : chars text ≡ print_piece read.0 ++ end.0 = inside.0 ∙ read.3 in
    let bytes : text ≡ encode_utf8_all (print_piece read.0 ++ end.0) = sym (encodes-chars text u) ∙ ap encode_utf8_all whole in
    let after : IsUtf8 (encode_utf8_all end.0) = utf8-back (print_piece read.0) end.0 (rw bytes at u) in
    let utf8 : IsUtf8 rest = rw end.2 at after in
    let same : end.0 ≡ chars rest = chars_from_encodes end.0 rest utf8 end.2 in
    record {
      front = encode_utf8_all (print_piece read.0);
      split =
          bytes ∙ encodes-append (print_piece read.0) end.0
          ∙ ap (λ (t : List ℕ). encode_utf8_all (print_piece read.0) ++ t) end.2;
      utf8 = utf8;
      key = (read.0, read.1, read.2, whole ∙ ap (λ (t : List ℕ). print_piece read.0 ++ t) same);
    }

-- The rest is no longer than the text.
pub KeyEnds-shorter : (text rest : List ℕ) → KeyEnds text rest → length rest ≤ length text
KeyEnds-shorter text rest h = omega (arith, ap length h.split, length-append h.front rest)

-- The rest begins at the length of the key's bytes.
KeyEnds-place : (text rest : List ℕ) (h : KeyEnds text rest) → length text - length rest ≡ length h.front
KeyEnds-place text rest h = omega (arith, ap length h.split, length-append h.front rest)

-- The rest begins at a character boundary.
pub KeyEnds-boundary : (text rest : List ℕ) → KeyEnds text rest → IsCharBoundary text (length text - length rest)
KeyEnds-boundary text rest h = rw (KeyEnds-place text rest h) (IsCharBoundary-at_seam text h.front rest h.split h.utf8)

-- The bytes from there on are the rest.
pub KeyEnds-back : (text rest : List ℕ) → KeyEnds text rest → drop (length text - length rest) text ≡ rest
KeyEnds-back text rest h =
    rw (KeyEnds-place text rest h) (ap (drop (length h.front)) h.split ∙ drop-append_seam h.front rest)

-- A key that ends at a given position ends at a character boundary.
pub KeyEnds-boundary_at : (text : List ℕ) (n : ℕ) → n ≤ length text → KeyEnds text (drop n text) → IsCharBoundary text n
KeyEnds-boundary_at text n inside h =
    let place : length text - length (drop n text) ≡ n = omega (arith, length-drop n text) in
    rw place at (KeyEnds-boundary text (drop n text) h)

-- A bracket, a digit and a bracket are a key.
pub KeyEnds-one_digit : (text : List ℕ) → IsUtf8 text → 3 ≤ length text → get_or text 0 0 ≡ opening → 48 ≤ get_or text 1 0
    → get_or text 1 0 < 58 → get_or text 2 0 ≡ closing → KeyEnds text (drop 3 text)
KeyEnds-one_digit [] u long o low high e = absurd (omega arith)
KeyEnds-one_digit (a ∷ []) u long o low high e = absurd (omega arith)
KeyEnds-one_digit (a ∷ c ∷ []) u long o low high e = absurd (omega arith)
KeyEnds-one_digit (a ∷ c ∷ d ∷ text) u long o low high e =
    let end = ap (λ (x : ℕ). key_rest (c ∷ x ∷ text)) e ∙ key_rest-one_digit c text low high in
    KeyEnds-from_rest (a ∷ c ∷ d ∷ text) (c ∷ d ∷ text) text u (ap (λ (x : ℕ). x ∷ c ∷ d ∷ text) o) end

-- A bracket, a unit in quotes and a bracket are a key.
pub KeyEnds-one_unit : (text : List ℕ) → IsUtf8 text → 5 ≤ length text → get_or text 0 0 ≡ opening → get_or text 1 0 ≡ quote
    → get_or text 2 0 ≢ quote → get_or text 2 0 ≢ backslash → get_or text 3 0 ≡ quote → get_or text 4 0 ≡ closing
    → KeyEnds text (drop 5 text)
KeyEnds-one_unit [] u long o q nq nb q' e = absurd (omega arith)
KeyEnds-one_unit (a ∷ []) u long o q nq nb q' e = absurd (omega arith)
KeyEnds-one_unit (a ∷ b ∷ []) u long o q nq nb q' e = absurd (omega arith)
KeyEnds-one_unit (a ∷ b ∷ c ∷ []) u long o q nq nb q' e = absurd (omega arith)
KeyEnds-one_unit (a ∷ b ∷ c ∷ d ∷ []) u long o q nq nb q' e = absurd (omega arith)
KeyEnds-one_unit (a ∷ b ∷ c ∷ d ∷ f ∷ text) u long o q nq nb q' e =
    let end =
    ap (λ (x : ℕ). key_rest (x ∷ c ∷ d ∷ f ∷ text)) q ∙ ap (λ (x : ℕ). key_rest (quote ∷ c ∷ x ∷ f ∷ text)) q'
    ∙ ap (λ (x : ℕ). key_rest (quote ∷ c ∷ quote ∷ x ∷ text)) e ∙ key_rest-one_unit c text nq nb in
    KeyEnds-from_rest (a ∷ b ∷ c ∷ d ∷ f ∷ text) (b ∷ c ∷ d ∷ f ∷ text) text u (ap (λ (x : ℕ). x ∷ b ∷ c ∷ d ∷ f ∷ text) o) end

-- If the key after an opening bracket has no end, no piece begins at the bracket.
pub opens-no_piece : (text key : List ℕ) → IsUtf8 text → text ≡ opening ∷ key → key_rest key ≡ None → BeginsNoPiece (chars text)
opens-no_piece text key u e none =
    let inside = opens text key u e in
    rw inside.0 (BeginsNoPiece-opening (chars key) (encoded-none (key_rest (chars key)) (sym (key_rest-text key inside.1) ∙ none)))

-- A text whose first byte is an opening bracket begins with that character.
pub opens-bracket : (text key : List ℕ) → IsUtf8 text → text ≡ opening ∷ key → (rest : List ℕ) × (chars text ≡ opening ∷ rest)
opens-bracket text key u e = (chars key, (opens text key u e).0)
