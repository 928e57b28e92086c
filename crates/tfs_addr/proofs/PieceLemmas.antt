-- Lists of pieces: the part of a text that has been read, and the unique reading of a text.
use Rattle.std.proofs.Common.{◌≡◌, ◌≢◌, ℕ, ◌+◌, ◌<◌, ◌≤◌, List, [], ◌∷◌, ◌++◌, length, map, Option, Some, None, refl, sym, ap, ◌∙◌, arith, append_assoc, append-nil, length-append}
use Rattle.std.specs.Prelude.{⊤, IsUtf8, chars, encode_utf8_all}
use Rattle.std.specs.Option.{option_map, MatchOption}
use Rattle.std.specs.List.{AllByRecursion}
use Rattle.std.proofs.lemmas.Option.{same_Some, none-some, some_pair_parts}
use Rattle.std.proofs.lemmas.List.Concat.{flat_map-append}
use Rattle.std.proofs.lemmas.Str.{encodes-append, encodes-chars}
use Rattle.tfs_addr.specs.Address.{opening, closing, Piece, character, number_key, text_key, print_piece, print_pieces, bare_part, without_keys, IsPiece, IsStripped, BeginsNoPiece, first_key, first_piece}
use Rattle.tfs_addr.specs.Steps.{HasNeither, IsKeyThen, key_rest}
use Rattle.tfs_addr.proofs.FirstPieceLemmas.{HasKey, first_key-reads, first_piece-opening, first_piece-closing, first_piece-print}

-- None of the characters is a bracket.
abbrev pub IsBare : List ℕ → Type 0
IsBare cs = HasNeither opening closing cs

-- ---- One piece.

-- A piece has at least one character.
pub print_piece-some : (piece : Piece) → 0 < length (print_piece piece)
print_piece-some (character c) = omega arith
print_piece-some (number_key digits) = omega arith
print_piece-some (text_key units) = omega arith

-- If no piece is read, none begins the characters.
pub BeginsNoPiece-from_none : (cs : List ℕ) → first_piece cs ≡ None → BeginsNoPiece cs
BeginsNoPiece-from_none cs none piece rest valid e =
    none-some (piece, rest) (sym none ∙ ap first_piece e ∙ first_piece-print piece rest valid)

-- No piece begins the empty list.
pub BeginsNoPiece-nil : BeginsNoPiece []
BeginsNoPiece-nil piece rest valid e =
    absurd (omega (arith, print_piece-some piece, length-append (print_piece piece) rest, ap length e))

-- No piece begins at a closing bracket.
pub BeginsNoPiece-closing : (cs : List ℕ) → BeginsNoPiece (closing ∷ cs)
BeginsNoPiece-closing cs = BeginsNoPiece-from_none (closing ∷ cs) (first_piece-closing cs)

-- Two pieces at the front of the same characters are equal, and so are the rests.
pub same_first : (p q : Piece) (xs ys : List ℕ) → IsPiece p → IsPiece q → print_piece p ++ xs ≡ print_piece q ++ ys → (p ≡ q) × (xs ≡ ys)
same_first p q xs ys hp hq e =
    let same = some_pair_parts p q xs ys (sym (first_piece-print p xs hp) ∙ ap first_piece e ∙ first_piece-print q ys hq) in
    (same.0, same.1)

-- The length of two parts in bytes is the sum of their lengths.
pub size-append : (xs ys : List ℕ) → length (encode_utf8_all (xs ++ ys)) ≡ length (encode_utf8_all xs) + length (encode_utf8_all ys)
size-append xs ys = ap length (encodes-append xs ys) ∙ length-append (encode_utf8_all xs) (encode_utf8_all ys)

-- ---- One key.

-- A piece that begins with an opening bracket is a key.
key_has_no_bare_part : (key : Piece) (cs rest : List ℕ) → IsPiece key → opening ∷ cs ≡ print_piece key ++ rest → bare_part key ≡ []
key_has_no_bare_part (character c) cs rest valid e = let same : opening ≡ c = cc in absurd (valid.0 (sym same))
key_has_no_bare_part (number_key digits) cs rest valid e = refl
key_has_no_bare_part (text_key units) cs rest valid e = refl

-- A key that is read is a key followed by the rest.
key_from : (cs rest : List ℕ) (o : Option (Piece × List ℕ)) → MatchOption o ⊤ (HasKey cs) → option_map (λ r. r.1) o ≡ Some rest
    → IsKeyThen (opening ∷ cs) rest
key_from cs rest None h e = absurd (none-some rest e)
key_from cs rest (Some r) h e =
    let ends : r.1 ≡ rest = same_Some r.1 rest e in
    (r.0, h.0, key_has_no_bare_part r.0 cs r.1 h.0 h.1, h.1 ∙ ap (λ (t : List ℕ). print_piece r.0 ++ t) ends)

-- If reading the key after a bracket gives the rest, the bracket begins a key followed by it.
pub IsKeyThen-from_end : (cs rest : List ℕ) → key_rest cs ≡ Some rest → IsKeyThen (opening ∷ cs) rest
IsKeyThen-from_end cs rest e = key_from cs rest (first_key cs) (first_key-reads cs) e

-- If no rest is read, no key is.
no_key-from : (o : Option (Piece × List ℕ)) → option_map (λ r. r.1) o ≡ None → o ≡ None
no_key-from None e = refl
no_key-from (Some r) e = absurd (none-some r.1 (sym e))

-- If the key after an opening bracket has no end, no piece begins at the bracket.
pub BeginsNoPiece-opening : (cs : List ℕ) → key_rest cs ≡ None → BeginsNoPiece (opening ∷ cs)
BeginsNoPiece-opening cs e = BeginsNoPiece-from_none (opening ∷ cs) (first_piece-opening cs ∙ no_key-from (first_key cs) e)

-- ---- The part that has been read.

-- If all elements of two lists satisfy a condition, so do those of both together.
pub AllByRecursion-append : {X : Type 0} (P : X → Type 0) (xs ys : List X) → AllByRecursion P xs → AllByRecursion P ys → AllByRecursion P (xs ++ ys)
AllByRecursion-append P [] ys h k = k
AllByRecursion-append P (x ∷ xs) ys h k = (h.0, AllByRecursion-append P xs ys h.1 k)

-- The characters of one more piece follow those of the other pieces.
pub print-one_more : (pieces : List Piece) (piece : Piece) → print_pieces (pieces ++ piece ∷ []) ≡ print_pieces pieces ++ print_piece piece
print-one_more pieces piece =
    flat_map-append print_piece pieces (piece ∷ []) ∙ ap (λ (t : List ℕ). print_pieces pieces ++ t) (append-nil (print_piece piece))

-- All of the characters cs except rest have been read as pieces, and bare is their text without
-- keys.
pub record HasRead (cs rest bare : List ℕ) : Type 0 where
  pub pieces : List Piece
  pub valid : AllByRecursion IsPiece pieces
  pub printed : cs ≡ print_pieces pieces ++ rest
  pub kept : bare ≡ encode_utf8_all (without_keys pieces)

-- Pieces at the front of the rest are read as well.
HasRead-more : (cs rest more bare : List ℕ) (pieces : List Piece) → HasRead cs rest bare → AllByRecursion IsPiece pieces
    → rest ≡ print_pieces pieces ++ more → HasRead cs more (bare ++ encode_utf8_all (without_keys pieces))
HasRead-more cs rest more bare pieces h valid e = record {
  pieces = h.pieces ++ pieces;
  valid = AllByRecursion-append IsPiece h.pieces pieces h.valid valid;
  printed =
      h.printed ∙ ap (λ (t : List ℕ). print_pieces h.pieces ++ t) e
      ∙ sym (append_assoc (print_pieces h.pieces) (print_pieces pieces) more)
      ∙ ap (λ (t : List ℕ). t ++ more) (sym (flat_map-append print_piece h.pieces pieces));
  kept =
      ap (λ (t : List ℕ). t ++ encode_utf8_all (without_keys pieces)) h.kept
      ∙ sym (encodes-append (without_keys h.pieces) (without_keys pieces))
      ∙ ap encode_utf8_all (sym (flat_map-append bare_part h.pieces pieces));
}

-- Characters as pieces are printed as themselves.
print-characters : (cs : List ℕ) → print_pieces (map character cs) ≡ cs
print-characters [] = refl
print-characters (c ∷ cs) = ap (λ (t : List ℕ). c ∷ t) (print-characters cs)

-- Characters as pieces remain when keys are removed.
bare-characters : (cs : List ℕ) → without_keys (map character cs) ≡ cs
bare-characters [] = refl
bare-characters (c ∷ cs) = ap (λ (t : List ℕ). c ∷ t) (bare-characters cs)

-- Characters without brackets are valid pieces.
characters-valid : (cs : List ℕ) → IsBare cs → AllByRecursion IsPiece (map character cs)
characters-valid [] h = tt
characters-valid (c ∷ cs) h = (h.0, characters-valid cs h.1)

-- Characters without brackets at the front of the rest are read and kept.
pub HasRead-bare : (cs rest front more bare : List ℕ) → HasRead cs rest bare → IsBare front → rest ≡ front ++ more
    → HasRead cs more (bare ++ encode_utf8_all front)
HasRead-bare cs rest front more bare h free e =
    let printed = e ∙ ap (λ (t : List ℕ). t ++ more) (sym (print-characters front)) in
    let grown = HasRead-more cs rest more bare (map character front) h (characters-valid front free) printed in
    rw (bare-characters front) at grown

-- A text without brackets at the front of the rest is read and kept.
pub HasRead-front : (cs rest bare front more : List ℕ) → HasRead cs rest bare → IsUtf8 front → IsBare (chars front)
    → rest ≡ chars front ++ more → HasRead cs more (bare ++ front)
HasRead-front cs rest bare front more h u free e =
    rw (encodes-chars front u) at (HasRead-bare cs rest (chars front) more bare h free e)

-- A key at the front of the rest is read and not kept.
pub HasRead-key : (cs rest more bare : List ℕ) → HasRead cs rest bare → IsKeyThen rest more → HasRead cs more bare
HasRead-key cs rest more bare h key =
    let whole : rest ≡ print_pieces (key.0 ∷ []) ++ more =
    key.3 ∙ ap (λ (t : List ℕ). t ++ more) (sym (append-nil (print_piece key.0))) in
    let grown = HasRead-more cs rest more bare (key.0 ∷ []) h (key.1, tt) whole in
    rw (key.2, append-nil bare) at grown

-- If all of a text has been read, bare is the text without its keys.
pub IsStripped-from_read : (text bare : List ℕ) → IsUtf8 text → HasRead (chars text) [] bare → IsStripped text bare
IsStripped-from_read text bare u h = (
  h.pieces,
  record {
    valid = h.valid;
    printed = sym (encodes-chars text u) ∙ ap encode_utf8_all (h.printed ∙ append-nil (print_pieces h.pieces));
  },
  h.kept,
)

-- What is kept of a piece is no longer in bytes than the piece.
bare_part-short : (piece : Piece) → length (encode_utf8_all (bare_part piece)) ≤ length (encode_utf8_all (print_piece piece))
bare_part-short (character c) = omega arith
bare_part-short (number_key digits) = omega arith
bare_part-short (text_key units) = omega arith

-- What is kept of pieces is no longer in bytes than the pieces.
without_keys-short : (pieces : List Piece) → length (encode_utf8_all (without_keys pieces)) ≤ length (encode_utf8_all (print_pieces pieces))
without_keys-short [] = omega arith
without_keys-short (p ∷ pieces) =
    omega (
      arith,
      size-append (bare_part p) (without_keys pieces),
      size-append (print_piece p) (print_pieces pieces),
      bare_part-short p,
      without_keys-short pieces,
    )

-- What has been kept is no longer in bytes than the text.
pub HasRead-short : (text rest bare : List ℕ) → IsUtf8 text → HasRead (chars text) rest bare → length bare ≤ length text
HasRead-short text rest bare u h =
    let whole : text ≡ encode_utf8_all (print_pieces h.pieces ++ rest) = sym (encodes-chars text u) ∙ ap encode_utf8_all h.printed in
    omega (arith, ap length whole, ap length h.kept, size-append (print_pieces h.pieces) rest, without_keys-short h.pieces)

-- Only the empty list of pieces is printed as no characters.
no_pieces : (pieces : List Piece) (rest bare : List ℕ) → [] ≡ print_pieces pieces ++ rest → bare ≡ encode_utf8_all (without_keys pieces)
    → (rest ≡ []) × (bare ≡ [])
no_pieces [] rest bare e kept = (sym e, kept)
no_pieces (p ∷ pieces) rest bare e kept =
    let parts = length-append (print_piece p ++ print_pieces pieces) rest in
    absurd (omega (arith, ap length e, print_piece-some p, parts, length-append (print_piece p) (print_pieces pieces)))

-- If there are no characters, nothing is left to read and nothing is kept.
pub HasRead-nothing : (rest bare : List ℕ) (h : HasRead [] rest bare) → (rest ≡ []) × (bare ≡ [])
HasRead-nothing rest bare h = no_pieces h.pieces rest bare h.printed h.kept

-- ---- The text without its keys.

-- Two lists without brackets, one after the other, are a list without brackets.
IsBare-append : (front back : List ℕ) → IsBare front → IsBare back → IsBare (front ++ back)
IsBare-append front back h k = AllByRecursion-append (λ c. (c ≢ opening) × (c ≢ closing)) front back h k

-- What is kept of a piece has no bracket.
bare_part-bare : (piece : Piece) → IsPiece piece → IsBare (bare_part piece)
bare_part-bare (character c) h = (h, tt)
bare_part-bare (number_key digits) h = tt
bare_part-bare (text_key units) h = tt

-- What is kept of pieces has no bracket.
without_keys-bare : (pieces : List Piece) → AllByRecursion IsPiece pieces → IsBare (without_keys pieces)
without_keys-bare [] h = tt
without_keys-bare (p ∷ pieces) h = IsBare-append (bare_part p) (without_keys pieces) (bare_part-bare p h.0) (without_keys-bare pieces h.1)

-- Removing the keys of a text without keys doesn't change it.
pub IsStripped-again : (text bare : List ℕ) → IsStripped text bare → IsStripped bare bare
IsStripped-again text bare h =
    let kept = without_keys h.0 in (
      map character kept,
      record {
        valid = characters-valid kept (without_keys-bare h.0 h.1.valid);
        printed = h.2 ∙ ap encode_utf8_all (sym (print-characters kept));
      },
      h.2 ∙ ap encode_utf8_all (sym (bare-characters kept)),
    )
