-- A text reads as pieces or stops, and `stripped_text` decides which.
use Rattle.std.proofs.Common.{◌≡◌, ◌≢◌, ℕ, zero, suc, ◌+◌, ◌≤◌, ◌⊎◌, List, [], ◌∷◌, ◌++◌, length, Option, Some, None, Result, Ok, Err, IfOk, IfErr, String, string_bytes, refl, sym, ap, ◌∙◌, inl, inr, arith, append_assoc, length-append}
use Rattle.std.specs.Prelude.{IsUtf8, chars, encode_utf8_all}
use Rattle.std.specs.Option.{IsSome, option_map, MatchOption}
use Rattle.std.specs.List.{AllByRecursion}
use Rattle.std.proofs.lemmas.Str.{chars-nil, encodes-chars}
use Rattle.std.proofs.lemmas.Bool.{cases_eq}
use Rattle.tfs_addr.specs.declared.fault.AddrFault.{AddrFault}
use Rattle.tfs_addr.specs.declared.fault.AddrFault.TheVariants.{Unclosed, StrayBracket, NoMemory}
use Rattle.tfs_addr.specs.Address.{opening, closing, Piece, character, print_piece, print_pieces, without_keys, IsPiece, IsStripped, HasNoReading, BeginsNoPiece, StopsBefore, first_piece, pieces_within, stripped_text, GivesText}
use Rattle.tfs_addr.specs.Steps.{IsBracketOf, FaultOf}
use Rattle.tfs_addr.proofs.FirstPieceLemmas.{HasPiece, first_piece-reads}
use Rattle.tfs_addr.proofs.PieceLemmas.{print_piece-some, BeginsNoPiece-from_none, HasRead, HasRead-nothing, IsStripped-from_read}
use Rattle.tfs_addr.proofs.StopLemmas.{StopsBefore-from_pieces, StopsBefore-from_read, reading_is_unique, stop_has_no_reading}
use Rattle.tfs_addr.proofs.ByteLemmas.{chars-empty}

-- ---- Pieces of characters.

-- The empty list has no pieces.
pieces_within-nil : (limit : ℕ) → pieces_within limit [] ≡ Some []
unfolding pieces_within
pieces_within-nil zero = refl
pieces_within-nil (suc limit) = refl

-- A list of pieces with one more in front.
abbrev put_piece : Piece → Option (List Piece) → Option (List Piece)
put_piece piece others = option_map (λ os. piece ∷ os) others

-- The pieces are the first one and those of the rest.
pieces_within-some : (limit : ℕ) (c : ℕ) (cs : List ℕ) (r : Piece × List ℕ) → first_piece (c ∷ cs) ≡ Some r
    → pieces_within (suc limit) (c ∷ cs) ≡ put_piece r.0 (pieces_within limit r.1)
unfolding pieces_within
pieces_within-some limit c cs r e = rw e refl

-- If no first piece is read, no list of pieces is.
pieces_within-none : (limit : ℕ) (c : ℕ) (cs : List ℕ) → first_piece (c ∷ cs) ≡ None → pieces_within limit (c ∷ cs) ≡ None
unfolding pieces_within
pieces_within-none zero c cs e = refl
pieces_within-none (suc limit) c cs e = rw e refl

-- After some pieces, the characters stop at a character c at which no piece begins.
abbrev Stops : List ℕ → Type 0
Stops cs = (pieces : List Piece) × (c : ℕ) × (rest : List ℕ) × AllByRecursion IsPiece pieces × (cs ≡ print_pieces pieces ++ c ∷ rest) × BeginsNoPiece (c ∷ rest)

-- The characters are those of these pieces.
abbrev Reads : List ℕ → List Piece → Type 0
Reads cs pieces = AllByRecursion IsPiece pieces × (cs ≡ print_pieces pieces)

-- A first piece is read, or none is.
first_cases : (o : Option (Piece × List ℕ)) → (o ≡ None) ⊎ ((r : Piece × List ℕ) × (o ≡ Some r))
first_cases None = inl refl
first_cases (Some r) = inr (r, refl)

-- One more piece in front of what was read.
put-reads : (piece : Piece) (cs rest : List ℕ) (o : Option (List Piece)) → IsPiece piece → cs ≡ print_piece piece ++ rest
    → MatchOption o (Stops rest) (Reads rest) → MatchOption (put_piece piece o) (Stops cs) (Reads cs)
put-reads piece cs rest None valid e h = (
  piece ∷ h.0,
  h.1,
  h.2,
  (valid, h.3),
  e ∙ ap (λ (t : List ℕ). print_piece piece ++ t) h.4 ∙ sym (append_assoc (print_piece piece) (print_pieces h.0) (h.1 ∷ h.2)),
  h.5,
)
put-reads piece cs rest (Some ps) valid e h = ((valid, h.0), e ∙ ap (λ (t : List ℕ). print_piece piece ++ t) h.1)

-- The pieces that are read have these characters; if none are read, the characters stop.
pub pieces_within-reads : (limit : ℕ) (cs : List ℕ) → length cs ≤ limit → MatchOption (pieces_within limit cs) (Stops cs) (Reads cs)
pieces_within-reads zero [] few = rw (pieces_within-nil zero) (tt, refl)
pieces_within-reads zero (c ∷ cs) few = absurd (omega arith)
pieces_within-reads (suc limit) [] few = rw (pieces_within-nil (suc limit)) (tt, refl)
pieces_within-reads (suc limit) (c ∷ cs) few =
    elim (first_cases (first_piece (c ∷ cs))) [
      | inl none ↦ rw (pieces_within-none (suc limit) c cs none) ([], c, cs, tt, refl, BeginsNoPiece-from_none (c ∷ cs) none)
      | inr some ↦
          let r = some.0 in
          let has : HasPiece (c ∷ cs) r = rw some.1 at (first_piece-reads (c ∷ cs)) in
          let fewer : length r.1 ≤ limit = omega (arith, ap length has.1, length-append (print_piece r.0) r.1, print_piece-some r.0) in
          rw (pieces_within-some limit c cs r some.1) (put-reads r.0 (c ∷ cs) r.1 (pieces_within limit r.1) has.0 has.1 (pieces_within-reads limit r.1 fewer))
    ]

-- ---- Texts.

-- The bytes of the pieces without their keys.
abbrev strips : Option (List Piece) → Option (List ℕ)
strips o = option_map (λ pieces. encode_utf8_all (without_keys pieces)) o

-- `stripped_text` removes the keys of the pieces that are read.
stripped_text-unfolds : (text : List ℕ) → stripped_text text ≡ strips (pieces_within (length (chars text)) (chars text))
unfolding stripped_text
stripped_text-unfolds text = refl

-- A character at which no piece begins is a bracket.
stop_is_bracket : (c : ℕ) (rest : List ℕ) → BeginsNoPiece (c ∷ rest) → (c ≡ opening) ⊎ (c ≡ closing)
stop_is_bracket c rest none =
    elim (cases_eq c opening) [
      | inl e ↦ inl e
      | inr o ↦ elim (cases_eq c closing) [
        | inl e ↦ inr e
        | inr e ↦ absurd (none (character c) rest (o, e) refl)
      ]
    ]

-- The text stops at a bracket.
abbrev pub HasStop : List ℕ → Type 0
HasStop text = StopsBefore text opening ⊎ StopsBefore text closing

-- A text that stops has no reading.
pub HasStop-no_reading : (text : List ℕ) → HasStop text → HasNoReading text
HasStop-no_reading text (inl h) = stop_has_no_reading text opening h.0 h.1
HasStop-no_reading text (inr h) = stop_has_no_reading text closing h.0 h.1

-- A text stops if its characters do.
text-stops : (text : List ℕ) → IsUtf8 text → Stops (chars text) → HasStop text
text-stops text u h =
    let stop : StopsBefore text h.1 =
    StopsBefore-from_pieces text h.2 h.1 h.0 h.3 (sym (encodes-chars text u) ∙ ap encode_utf8_all h.4) h.5 in
    elim (stop_is_bracket h.1 h.2 h.5) [
      | inl e ↦ inl (rw e at stop)
      | inr e ↦ inr (rw e at stop)
    ]

-- A text is stripped if pieces are read, and stops otherwise.
text-outcome : (text : List ℕ) (o : Option (List Piece)) → IsUtf8 text → MatchOption o (Stops (chars text)) (Reads (chars text))
    → MatchOption (strips o) (HasStop text) (IsStripped text)
text-outcome text None u h = text-stops text u h
text-outcome text (Some ps) u h =
    (ps, record { valid = h.0; printed = sym (encodes-chars text u) ∙ ap encode_utf8_all h.1 }, refl)

-- If `stripped_text` returns a text, it is the text without keys; if it returns None, the text
-- stops.
pub stripped_text-tells : (text : List ℕ) → IsUtf8 text → MatchOption (stripped_text text) (HasStop text) (IsStripped text)
stripped_text-tells text u =
    rw (stripped_text-unfolds text)
    (text-outcome text (pieces_within (length (chars text)) (chars text)) u (pieces_within-reads (length (chars text)) (chars text) (omega arith)))

-- A text has at most one text without keys.
pub IsStripped-unique : (text a b : List ℕ) → IsStripped text a → IsStripped text b → a ≡ b
IsStripped-unique text a b h k =
    h.2 ∙ ap (λ ps. encode_utf8_all (without_keys ps)) (reading_is_unique text h.0 k.0 h.1 k.1) ∙ sym k.2

-- If a text has a text without keys, the result is that.
some-from : (text bare : List ℕ) (o : Option (List ℕ)) → MatchOption o (HasStop text) (IsStripped text) → IsStripped text bare → o ≡ Some bare
some-from text bare None h k = absurd (HasStop-no_reading text h k.0 k.1)
some-from text bare (Some b) h k = ap Some (IsStripped-unique text b bare h k)

-- If a text has no reading, the result is None.
none-from : (text : List ℕ) (o : Option (List ℕ)) → MatchOption o (HasStop text) (IsStripped text) → HasNoReading text → o ≡ None
none-from text None h k = refl
none-from text (Some b) h k = absurd (k h.0 h.1)

-- If a text has a text without keys, `stripped_text` returns it.
pub stripped_text-some : (text bare : List ℕ) → IsUtf8 text → IsStripped text bare → stripped_text text ≡ Some bare
stripped_text-some text bare u k = some-from text bare (stripped_text text) (stripped_text-tells text u) k

-- If a text has no reading, `stripped_text` returns None.
pub stripped_text-none : (text : List ℕ) → IsUtf8 text → HasNoReading text → stripped_text text ≡ None
stripped_text-none text u k = none-from text (stripped_text text) (stripped_text-tells text u) k

-- ---- The faults of `strip`.

-- A text with a fault has no reading.
pub FaultOf-no_reading : (text : List ℕ) (e : AddrFault) → FaultOf text e → HasNoReading text
FaultOf-no_reading text Unclosed h = stop_has_no_reading text opening h.0 h.1
FaultOf-no_reading text StrayBracket h = stop_has_no_reading text closing h.0 h.1
FaultOf-no_reading text NoMemory h = absurd h

-- If no piece begins the rest and the rest begins with the fault's bracket, the text has this
-- fault.
pub FaultOf-from_read : (text rest bare : List ℕ) (e : AddrFault) → IsUtf8 text → HasRead (chars text) rest bare
    → BeginsNoPiece rest → IsBracketOf e rest → FaultOf text e
FaultOf-from_read text rest bare Unclosed u h none bracket = StopsBefore-from_read text rest bracket.0 bare opening u h bracket.1 none
FaultOf-from_read text rest bare StrayBracket u h none bracket = StopsBefore-from_read text rest bracket.0 bare closing u h bracket.1 none
FaultOf-from_read text rest bare NoMemory u h none bracket = absurd bracket

-- A text whose fault is Unclosed stops before an opening bracket.
pub FaultOf-unclosed : {A : Type 0} (text : List ℕ) (e : AddrFault) → FaultOf text e
    → ◌≡◌ {A = Result A AddrFault} (Err e) (Err Unclosed) → StopsBefore text opening
FaultOf-unclosed text Unclosed h is = h
FaultOf-unclosed text StrayBracket h is = cc
FaultOf-unclosed text NoMemory h is = absurd h

-- A text whose fault is StrayBracket stops before a closing bracket.
pub FaultOf-stray : {A : Type 0} (text : List ℕ) (e : AddrFault) → FaultOf text e
    → ◌≡◌ {A = Result A AddrFault} (Err e) (Err StrayBracket) → StopsBefore text closing
FaultOf-stray text Unclosed h is = cc
FaultOf-stray text StrayBracket h is = h
FaultOf-stray text NoMemory h is = absurd h

-- If nothing of the text is left to read, what was kept is the text without its keys.
pub IsStripped-at_end : (text key grown bare : List ℕ) → IsUtf8 text → HasRead (chars text) (chars key) grown → length key ≡ 0
    → bare ≡ grown → IsStripped text bare
IsStripped-at_end text key grown bare u h none e =
    rw e (IsStripped-from_read text grown u (rw (chars-empty key none) at h))

-- ---- The empty text.

-- If there are no characters, there are no bytes.
no_characters : (bs cs : List ℕ) → length cs ≡ 0 → encode_utf8_all cs ≡ bs → length bs ≡ 0
no_characters bs [] none e = ap length (sym e)
no_characters bs (c ∷ cs) none e = absurd (omega arith)

-- If the text is empty, nothing is kept, and both parts of what is left are empty.
pub nothing_read : (text front rest back bare : List ℕ) → text ≡ [] → HasRead (chars text) (chars rest) bare → IsUtf8 front → IsUtf8 back
    → chars rest ≡ chars front ++ chars back → (length bare ≡ 0) × (length front ≡ 0) × (length back ≡ 0)
nothing_read text front rest back bare e h u v whole =
    let empty : HasRead [] (chars rest) bare = rw (ap chars e ∙ chars-nil) at h in
    let nothing = HasRead-nothing (chars rest) bare empty in
    let parts : length (chars front) + length (chars back) ≡ 0 =
    sym (length-append (chars front) (chars back)) ∙ ap length (sym whole ∙ nothing.0) in (
      ap length nothing.1,
      no_characters front (chars front) (omega arith) (encodes-chars front u),
      no_characters back (chars back) (omega arith) (encodes-chars back v),
    )

-- ---- The laws of `stripped_text`.

-- If the result is a text, the text reads; if it is None, the text stops.
stop_or_reading : (text : List ℕ) (o : Option (List ℕ)) → MatchOption o (HasStop text) (IsStripped text)
    → ((bare : List ℕ) × IsStripped text bare) ⊎ HasStop text
stop_or_reading text None h = inr h
stop_or_reading text (Some bare) h = inl (bare, h)

-- A text reads or stops.
pub reading_or_stop : (text : List ℕ) → IsUtf8 text → ((bare : List ℕ) × IsStripped text bare) ⊎ HasStop text
reading_or_stop text u = stop_or_reading text (stripped_text text) (stripped_text-tells text u)

-- The text that `stripped_text` returns is the text without keys.
pub IsStripped-from_some : (text bare : List ℕ) → IsUtf8 text → stripped_text text ≡ Some bare → IsStripped text bare
IsStripped-from_some text bare u e = rw e at (stripped_text-tells text u)

-- If `stripped_text` returns None, the text has no reading.
pub HasNoReading-from_none : (text : List ℕ) → IsUtf8 text → stripped_text text ≡ None → HasNoReading text
HasNoReading-from_none text u e =
    let stop : HasStop text = rw e at (stripped_text-tells text u) in
    HasStop-no_reading text stop

-- If a text has a text without keys, `stripped_text` returns a text.
pub stripped_text-is_some : (text bare : List ℕ) → IsUtf8 text → IsStripped text bare → IsSome (stripped_text text)
stripped_text-is_some text bare u h = rw (stripped_text-some text bare u h) refl

-- ---- The result of `strip` and `stripped_text`.

-- `stripped_text` returns None for a text with a fault.
pub FaultOf-none : (text : List ℕ) (e : AddrFault) → IsUtf8 text → FaultOf text e → stripped_text text ≡ None
FaultOf-none text e u h = stripped_text-none text u (FaultOf-no_reading text e h)

-- An error in the text agrees with `stripped_text`.
pub GivesText-fault : (A : Type 0) (text : List ℕ) (e : AddrFault) → IsUtf8 text → FaultOf text e
    → GivesText {A = A} (Err e) (stripped_text text)
GivesText-fault A text Unclosed u h = FaultOf-none text Unclosed u h
GivesText-fault A text StrayBracket u h = FaultOf-none text StrayBracket u h
GivesText-fault A text NoMemory u h = absurd h

-- If a text reads, the result of `strip` agrees with `stripped_text`: it is the text without keys
-- or NoMemory, because any other error would mean that the text doesn't read.
pub GivesText-made : (A : Type 0) (text bare : List ℕ) (r : Result (String A) AddrFault) → IsUtf8 text → IsStripped text bare
    → IfOk r (λ made. IsStripped text (string_bytes made)) → IfErr r (λ e. e ≢ NoMemory → FaultOf text e) → GivesText r (stripped_text text)
GivesText-made A text bare (Ok made) u h ok err = stripped_text-some text (string_bytes made) u ok
GivesText-made A text bare (Err NoMemory) u h ok err = stripped_text-is_some text bare u h
GivesText-made A text bare (Err Unclosed) u h ok err = FaultOf-none text Unclosed u (err (λ e. cc))
GivesText-made A text bare (Err StrayBracket) u h ok err = FaultOf-none text StrayBracket u (err (λ e. cc))
