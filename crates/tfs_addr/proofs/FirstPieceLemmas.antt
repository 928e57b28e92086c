-- The first piece of a list of characters: what `first_piece` returns is at the front, and a piece
-- at the front is what it returns.
use Rattle.std.proofs.Common.{◌≡◌, ◌≢◌, ℕ, suc, ◌+◌, ◌<◌, true, false, eqb, List, [], ◌∷◌, ◌++◌, length, take, drop, Option, Some, None, refl, sym, ap, ◌∙◌, inl, inr, arith, append_assoc, length-take-le}
use Rattle.std.specs.Option.{option_and_then, MatchOption}
use Rattle.std.specs.Prelude.{flat_map, ⊤}
use Rattle.std.specs.List.{AllByRecursion, prefix_len}
use Rattle.std.specs.Char.{is_ascii_digit}
use Rattle.std.proofs.lemmas.List.{take-append-drop}
use Rattle.std.proofs.lemmas.List.Sums.{prefix_len-le-length}
use Rattle.std.proofs.Math.Seq.{take-append_seam, drop-append_seam}
use Rattle.std.proofs.lemmas.Bool.{cases_Bool, cases_eq}
use Rattle.std.proofs.lemmas.Bool.Decides.{nat_tests}
use Rattle.tfs_addr.specs.Address.{opening, closing, quote, backslash, KeyUnit, plain, escaped, Piece, character, number_key, text_key, print_unit, print_piece, IsUnit, IsPiece, close_key, first_digits, put_unit, first_units, first_key, first_piece}

-- The test for equal numbers is false for different ones.
differs : (a b : ℕ) → a ≢ b → eqb a b ≡ false
differs a b ne = grind (arith, nat_tests)

-- ---- Units.

-- A quote ends the units.
pub first_units-quote : (cs : List ℕ) → first_units (quote ∷ cs) ≡ Some ([], cs)
unfolding first_units
first_units-quote [] = refl
first_units-quote (d ∷ cs) = refl

-- A character other than a quote and a backslash is a unit.
pub first_units-plain : (c : ℕ) (cs : List ℕ) → c ≢ quote → c ≢ backslash → first_units (c ∷ cs) ≡ put_unit (plain c) (first_units cs)
unfolding first_units
first_units-plain c [] q b = rw (differs c quote q) refl
first_units-plain c (d ∷ cs) q b = rw (differs c quote q, differs c backslash b) refl

-- A backslash and the character after it are a unit.
pub first_units-escaped : (c : ℕ) (cs : List ℕ) → first_units (backslash ∷ c ∷ cs) ≡ put_unit (escaped c) (first_units cs)
unfolding first_units
first_units-escaped c cs = refl

-- Units are read from their printed form and a quote.
pub first_units-print : (units : List KeyUnit) (rest : List ℕ) → AllByRecursion IsUnit units
    → first_units (flat_map print_unit units ++ quote ∷ rest) ≡ Some (units, rest)
first_units-print [] rest h = first_units-quote rest
first_units-print (plain c ∷ units) rest h =
    first_units-plain c (flat_map print_unit units ++ quote ∷ rest) h.0.0 h.0.1
    ∙ ap (put_unit (plain c)) (first_units-print units rest h.1)
first_units-print (escaped c ∷ units) rest h =
    first_units-escaped c (flat_map print_unit units ++ quote ∷ rest)
    ∙ ap (put_unit (escaped c)) (first_units-print units rest h.1)

-- The units and a quote are at the front of cs, and the rest follows.
abbrev pub HasUnits : List ℕ → List KeyUnit × List ℕ → Type 0
HasUnits cs r = AllByRecursion IsUnit r.0 × (cs ≡ flat_map print_unit r.0 ++ quote ∷ r.1)

-- The units that were read, if any, are at the front of cs.
abbrev UnitsAre : List ℕ → Option (List KeyUnit × List ℕ) → Type 0
UnitsAre cs o = MatchOption o ⊤ (HasUnits cs)

-- One more unit in front of the units that were read.
UnitsAre-put : (unit : KeyUnit) (cs : List ℕ) (o : Option (List KeyUnit × List ℕ)) → IsUnit unit → UnitsAre cs o
    → UnitsAre (print_unit unit ++ cs) (put_unit unit o)
UnitsAre-put unit cs None u h = tt
UnitsAre-put unit cs (Some r) u h = (
  (u, h.0),
  ap (λ (t : List ℕ). print_unit unit ++ t) h.1
      ∙ sym (append_assoc (print_unit unit) (flat_map print_unit r.0) (quote ∷ r.1)),
)

-- A single character other than a quote doesn't end the units.
pub first_units-one : (c : ℕ) → c ≢ quote → first_units (c ∷ []) ≡ None
unfolding first_units
first_units-one c q = rw (differs c quote q) refl

-- No units are read from the empty list.
pub first_units-nil : first_units [] ≡ None
unfolding first_units
first_units-nil = refl

-- The units that are read are at the front.
pub first_units-reads : (cs : List ℕ) → UnitsAre cs (first_units cs)
first_units-reads [] = rw first_units-nil tt
first_units-reads (c ∷ []) =
    elim (cases_eq c quote) [
      | inl e ↦ rw (e, first_units-quote []) (tt, refl)
      | inr q ↦ rw (first_units-one c q) tt
    ]
first_units-reads (c ∷ d ∷ cs) =
    elim (cases_eq c quote) [
      | inl e ↦ rw (e, first_units-quote (d ∷ cs)) (tt, refl)
      | inr q ↦ elim (cases_eq c backslash) [
        | inl e ↦ rw (e, first_units-escaped d cs) (UnitsAre-put (escaped d) cs (first_units cs) tt (first_units-reads cs))
        | inr b ↦ rw (first_units-plain c (d ∷ cs) q b) (UnitsAre-put (plain c) (d ∷ cs) (first_units (d ∷ cs)) (q, b) (first_units-reads (d ∷ cs)))
      ]
    ]

-- ---- Keys.

-- The key is at the front of cs, which begins after its opening bracket, and the rest follows.
abbrev pub HasKey : List ℕ → Piece × List ℕ → Type 0
HasKey cs r = IsPiece r.0 × (opening ∷ cs ≡ print_piece r.0 ++ r.1)

-- The key that was read, if any, is at the front of cs.
abbrev KeyIs : List ℕ → Option (Piece × List ℕ) → Type 0
KeyIs cs o = MatchOption o ⊤ (HasKey cs)

-- A key that is closed is followed by its bracket.
close_key-reads : (key : Piece) (cs : List ℕ) → MatchOption (close_key key cs) ⊤ (λ r. (r.0 ≡ key) × (cs ≡ closing ∷ r.1))
close_key-reads key [] = tt
close_key-reads key (c ∷ cs) =
    elim (cases_eq c closing) [
      | inl e ↦ rw e (refl, refl)
      | inr ne ↦ rw (differs c closing ne) tt
    ]

-- If a key's printed form is a bracket, a front and a bracket, closing the key after the front
-- gives that key.
KeyIs-close : (front cs : List ℕ) (key : Piece) (o : Option (Piece × List ℕ)) → IsPiece key
    → print_piece key ≡ opening ∷ (front ++ closing ∷ [])
    → MatchOption o ⊤ (λ r. (r.0 ≡ key) × (cs ≡ closing ∷ r.1)) → KeyIs (front ++ cs) o
KeyIs-close front cs key None valid printed h = tt
KeyIs-close front cs key (Some r) valid printed h = rw h.0 (
  valid,
  rw (printed, h.1) (ap (λ (t : List ℕ). opening ∷ t) (sym (append_assoc front (closing ∷ []) r.1))),
)

-- All characters are digits.
abbrev AllDigits : List ℕ → Type 0
AllDigits cs = AllByRecursion (λ c. is_ascii_digit c ≡ true) cs

-- The digits at the beginning are digits.
take-digits : (cs : List ℕ) → AllDigits (take (prefix_len is_ascii_digit cs) cs)
take-digits [] = tt
take-digits (c ∷ cs) =
    let n = prefix_len is_ascii_digit cs in
    let one : 1 + n ≡ suc n = omega arith in
    elim (cases_Bool (is_ascii_digit c)) [
      | inl e ↦ rw (e, one) (e, take-digits cs)
      | inr e ↦ rw e tt
    ]

-- Digits before a closing bracket end at the bracket.
prefix_len-digits : (digits rest : List ℕ) → AllDigits digits
    → prefix_len is_ascii_digit (digits ++ closing ∷ rest) ≡ length digits
prefix_len-digits [] rest h = refl
prefix_len-digits (c ∷ digits) rest h = rw (h.0, prefix_len-digits digits rest h.1) (omega arith)

-- If no digit is at the beginning, none are read.
first_digits-none : (cs : List ℕ) → prefix_len is_ascii_digit cs ≡ 0 → first_digits cs ≡ None
unfolding first_digits
first_digits-none cs e = rw e refl

-- If digits are at the beginning, all of them are read.
first_digits-some : (cs : List ℕ) → prefix_len is_ascii_digit cs ≢ 0 → first_digits cs
    ≡ Some (take (prefix_len is_ascii_digit cs) cs, drop (prefix_len is_ascii_digit cs) cs)
unfolding first_digits
first_digits-some cs ne = rw (differs (prefix_len is_ascii_digit cs) 0 ne) refl

-- The digits as a key.
abbrev close_number : Option (List ℕ × List ℕ) → Option (Piece × List ℕ)
close_number o = option_and_then (λ r. close_key (number_key r.0) r.1) o

-- A key of digits that is read is at the front.
KeyIs-number : (cs : List ℕ) → KeyIs cs (close_number (first_digits cs))
KeyIs-number cs =
    let n = prefix_len is_ascii_digit cs in
    elim (cases_eq n 0) [
      | inl e ↦ rw (first_digits-none cs e) tt
      | inr ne ↦
          let some : 0 < length (take n cs) = omega (arith, length-take-le n cs (prefix_len-le-length is_ascii_digit cs)) in
          let key = number_key (take n cs) in
          let whole = KeyIs-close (take n cs) (drop n cs) key (close_key key (drop n cs)) (some, take-digits cs) refl (close_key-reads key (drop n cs)) in
          rw (first_digits-some cs ne) (rw (take-append-drop n cs) at whole)
    ]

-- Digits are read from their printed form and a closing bracket.
first_digits-print : (digits rest : List ℕ) → 0 < length digits → AllDigits digits
    → first_digits (digits ++ closing ∷ rest) ≡ Some (digits, closing ∷ rest)
first_digits-print digits rest some h =
    let n = prefix_len-digits digits rest h in
    let ne : prefix_len is_ascii_digit (digits ++ closing ∷ rest) ≢ 0 = omega (arith, n) in
    rw (first_digits-some (digits ++ closing ∷ rest) ne, n, take-append_seam digits (closing ∷ rest), drop-append_seam digits (closing ∷ rest)) refl

-- A digit isn't a quote.
digit_is_no_quote : (c : ℕ) → is_ascii_digit c ≡ true → c ≢ quote
digit_is_no_quote c h = grind (arith, nat_tests)

-- A key that doesn't begin with a quote is read as digits.
first_key-digits : (c : ℕ) (cs : List ℕ) → c ≢ quote → first_key (c ∷ cs) ≡ close_number (first_digits (c ∷ cs))
first_key-digits c cs ne = rw (differs c quote ne) refl

-- A key of digits is read from its printed form.
first_key-number : (digits rest : List ℕ) → 0 < length digits → AllDigits digits
    → first_key (digits ++ closing ∷ rest) ≡ Some (number_key digits, rest)
first_key-number [] rest some h = absurd (omega arith)
first_key-number (c ∷ digits) rest some h =
    first_key-digits c (digits ++ closing ∷ rest) (digit_is_no_quote c h.0)
    ∙ ap close_number (first_digits-print (c ∷ digits) rest some h)

-- The units as a key.
abbrev close_text : Option (List KeyUnit × List ℕ) → Option (Piece × List ℕ)
close_text o = option_and_then (λ r. close_key (text_key r.0) r.1) o

-- A key of units is read from its printed form.
first_key-text : (units : List KeyUnit) (rest : List ℕ) → AllByRecursion IsUnit units
    → first_key (quote ∷ (flat_map print_unit units ++ quote ∷ closing ∷ rest)) ≡ Some (text_key units, rest)
first_key-text units rest h = ap close_text (first_units-print units (closing ∷ rest) h)

-- A key of units that is read is at the front.
KeyIs-text : (cs : List ℕ) (o : Option (List KeyUnit × List ℕ)) → UnitsAre cs o → KeyIs (quote ∷ cs) (close_text o)
KeyIs-text cs None h = tt
KeyIs-text cs (Some r) h =
    let front = quote ∷ (flat_map print_unit r.0 ++ quote ∷ []) in
    let key = text_key r.0 in
    let printed : print_piece key ≡ opening ∷ (front ++ closing ∷ []) =
    ap (λ (t : List ℕ). opening ∷ quote ∷ t) (sym (append_assoc (flat_map print_unit r.0) (quote ∷ []) (closing ∷ []))) in
    let whole = KeyIs-close front r.1 key (close_key key r.1) h.0 printed (close_key-reads key r.1) in
    let joined : front ++ r.1 ≡ quote ∷ cs =
    ap (λ (t : List ℕ). quote ∷ t) (append_assoc (flat_map print_unit r.0) (quote ∷ []) r.1 ∙ sym h.1) in
    rw joined at whole

-- A key that is read is at the front.
pub first_key-reads : (cs : List ℕ) → KeyIs cs (first_key cs)
first_key-reads [] = tt
first_key-reads (c ∷ cs) =
    elim (cases_eq c quote) [
      | inl e ↦ rw e (KeyIs-text cs (first_units cs) (first_units-reads cs))
      | inr ne ↦ rw (first_key-digits c cs ne) (KeyIs-number (c ∷ cs))
    ]

-- ---- Pieces.

-- No piece is read from the empty list.
pub first_piece-nil : first_piece [] ≡ None
unfolding first_piece
first_piece-nil = refl

-- An opening bracket begins a key.
pub first_piece-opening : (cs : List ℕ) → first_piece (opening ∷ cs) ≡ first_key cs
unfolding first_piece
first_piece-opening cs = refl

-- A closing bracket begins no piece.
pub first_piece-closing : (cs : List ℕ) → first_piece (closing ∷ cs) ≡ None
unfolding first_piece
first_piece-closing cs = refl

-- Any other character is a piece.
pub first_piece-character : (c : ℕ) (cs : List ℕ) → c ≢ opening → c ≢ closing → first_piece (c ∷ cs) ≡ Some (character c, cs)
unfolding first_piece
first_piece-character c cs o e = rw (differs c opening o, differs c closing e) refl

-- A piece is read from its printed form.
pub first_piece-print : (piece : Piece) (rest : List ℕ) → IsPiece piece → first_piece (print_piece piece ++ rest) ≡ Some (piece, rest)
first_piece-print (character c) rest h = first_piece-character c rest h.0 h.1
first_piece-print (number_key digits) rest h =
    first_piece-opening ((digits ++ closing ∷ []) ++ rest)
    ∙ ap first_key (append_assoc digits (closing ∷ []) rest)
    ∙ first_key-number digits rest h.0 h.1
first_piece-print (text_key units) rest h =
    first_piece-opening (quote ∷ ((flat_map print_unit units ++ quote ∷ closing ∷ []) ++ rest))
    ∙ ap (λ (t : List ℕ). first_key (quote ∷ t)) (append_assoc (flat_map print_unit units) (quote ∷ closing ∷ []) rest)
    ∙ first_key-text units rest h

-- The piece is at the front of cs, and the rest follows.
abbrev pub HasPiece : List ℕ → Piece × List ℕ → Type 0
HasPiece cs r = IsPiece r.0 × (cs ≡ print_piece r.0 ++ r.1)

-- A piece that is read is at the front.
pub first_piece-reads : (cs : List ℕ) → MatchOption (first_piece cs) ⊤ (HasPiece cs)
first_piece-reads [] = rw first_piece-nil tt
first_piece-reads (c ∷ cs) =
    elim (cases_eq c opening) [
      | inl e ↦ rw (e, first_piece-opening cs) (first_key-reads cs)
      | inr o ↦ elim (cases_eq c closing) [
        | inl e ↦ rw (e, first_piece-closing cs) tt
        | inr e ↦ rw (first_piece-character c cs o e) ((o, e), refl)
      ]
    ]
