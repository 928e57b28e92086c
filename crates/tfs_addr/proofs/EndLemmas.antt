-- Where units, digits and keys end in a list of numbers, which are the characters of a text or its
-- bytes.
use Rattle.std.proofs.Common.{◌≡◌, ◌≢◌, ◌⊎◌, ℕ, ◌+◌, suc, true, false, eqb, List, [], ◌∷◌, ◌++◌, length, ◌<◌, ◌≤◌, Option, Some, None, refl, ap, ◌∙◌, inl, inr, arith}
use Rattle.std.specs.Prelude.{option_map}
use Rattle.std.specs.Option.{option_and_then}
use Rattle.std.specs.List.{prefix_len}
use Rattle.std.specs.Char.{is_ascii_digit}
use Rattle.std.proofs.lemmas.Bool.{cases_eq}
use Rattle.std.proofs.lemmas.Bool.Decides.{nat_tests}
use Rattle.tfs_addr.specs.Address.{closing, quote, backslash, KeyUnit, plain, escaped, Piece, number_key, text_key, close_key, put_unit, first_digits, first_units}
use Rattle.tfs_addr.specs.Steps.{HasNeither, MayBeginWith, rest_after, units_rest, key_rest, without_digits}
use Rattle.tfs_addr.proofs.FirstPieceLemmas.{first_units-nil, first_units-one, first_units-quote, first_units-plain, first_units-escaped}

-- One more unit in front doesn't change what follows the units.
after-put : (unit : KeyUnit) (o : Option (List KeyUnit × List ℕ)) → option_map (λ r. r.1) (put_unit unit o) ≡ option_map (λ r. r.1) o
after-put unit None = refl
after-put unit (Some r) = refl

-- Nothing has no units, because no quote ends them.
pub units_rest-nil : units_rest [] ≡ None
units_rest-nil = ap (option_map (λ r. r.1)) first_units-nil

-- A quote ends the units.
pub units_rest-quote : (cs : List ℕ) → units_rest (quote ∷ cs) ≡ Some cs
units_rest-quote cs = ap (option_map (λ r. r.1)) (first_units-quote cs)

-- A character other than a quote and a backslash is a unit.
pub units_rest-plain : (c : ℕ) (cs : List ℕ) → c ≢ quote → c ≢ backslash → units_rest (c ∷ cs) ≡ units_rest cs
units_rest-plain c cs q b =
    ap (option_map (λ r. r.1)) (first_units-plain c cs q b) ∙ after-put (plain c) (first_units cs)

-- A backslash and the character after it are a unit.
pub units_rest-escaped : (c : ℕ) (cs : List ℕ) → units_rest (backslash ∷ c ∷ cs) ≡ units_rest cs
units_rest-escaped c cs =
    ap (option_map (λ r. r.1)) (first_units-escaped c cs) ∙ after-put (escaped c) (first_units cs)

-- A backslash without a character after it is no unit.
pub units_rest-open : units_rest (backslash ∷ []) ≡ None
units_rest-open = ap (option_map (λ r. r.1)) (first_units-one backslash (λ e. absurd (omega arith)))

-- Characters other than quotes and backslashes don't change where the units end.
pub units_rest-front : (front cs : List ℕ) → HasNeither quote backslash front → units_rest (front ++ cs) ≡ units_rest cs
units_rest-front [] cs h = refl
units_rest-front (c ∷ front) cs h = units_rest-plain c (front ++ cs) h.0.0 h.0.1 ∙ units_rest-front front cs h.1

-- ---- Units from a quote or a backslash on.

-- Without a mark no units end.
pub units_rest-empty : (bs : List ℕ) → length bs ≡ 0 → units_rest bs ≡ None
units_rest-empty [] e = units_rest-nil
units_rest-empty (b ∷ bs) e = absurd (omega arith)

-- A quote ends the units.
pub units_rest-at_quote : (bs after : List ℕ) (b : ℕ) → bs ≡ b ∷ after → b ≡ quote → units_rest bs ≡ Some after
units_rest-at_quote bs after b e is = ap units_rest (e ∙ ap (λ (x : ℕ). x ∷ after) is) ∙ units_rest-quote after

-- A mark other than a quote is a backslash.
backslash_there : (bs after : List ℕ) (b : ℕ) → bs ≡ b ∷ after → MayBeginWith quote backslash bs → b ≢ quote → bs ≡ backslash ∷ after
backslash_there bs after b e h q =
    let front : (b ≡ quote) ⊎ (b ≡ backslash) = rw e at h in
    elim front [ inl is ↦ absurd (q is) | inr is ↦ e ∙ ap (λ (x : ℕ). x ∷ after) is ]

-- After a backslash and the character that it escapes, the units end where the rest's units end.
pub units_rest-at_backslash : (bs after rest : List ℕ) (b d : ℕ) → bs ≡ b ∷ after → MayBeginWith quote backslash bs → b ≢ quote
    → after ≡ d ∷ rest → units_rest bs ≡ units_rest rest
units_rest-at_backslash bs after rest b d e h q f =
    ap units_rest (backslash_there bs after b e h q ∙ ap (λ (t : List ℕ). backslash ∷ t) f) ∙ units_rest-escaped d rest

-- After a backslash at the end no units end.
pub units_rest-at_end : (bs after : List ℕ) (b : ℕ) → bs ≡ b ∷ after → MayBeginWith quote backslash bs → b ≢ quote
    → length after ≡ 0 → units_rest bs ≡ None
units_rest-at_end bs [] b e h q none = ap units_rest (backslash_there bs [] b e h q) ∙ units_rest-open
units_rest-at_end bs (d ∷ after) b e h q none = absurd (omega arith)

-- ---- Keys.

-- The characters after a closing bracket, if it comes next.
abbrev pub closed : Option (List ℕ) → Option (List ℕ)
closed o = option_and_then (rest_after closing) o

-- The characters after a key that is closed are those after the closing bracket.
close-after : (key : Piece) (cs : List ℕ) → option_map (λ r. r.1) (close_key key cs) ≡ rest_after closing cs
close-after key [] = refl
close-after key (c ∷ cs) =
    elim (cases_eq c closing) [
      | inl e ↦ rw e refl
      | inr ne ↦ let test : eqb c closing ≡ false = grind (arith, nat_tests) in rw test refl
    ]

-- The characters after a key of units are those after the bracket that follows the units.
closed-units : (o : Option (List KeyUnit × List ℕ))
    → option_map (λ r. r.1) (option_and_then (λ r. close_key (text_key r.0) r.1) o) ≡ closed (option_map (λ r. r.1) o)
closed-units None = refl
closed-units (Some r) = close-after (text_key r.0) r.1

-- The characters after a key of digits are those after the bracket that follows the digits.
closed-digits : (o : Option (List ℕ × List ℕ))
    → option_map (λ r. r.1) (option_and_then (λ r. close_key (number_key r.0) r.1) o) ≡ closed (option_map (λ r. r.1) o)
closed-digits None = refl
closed-digits (Some r) = close-after (number_key r.0) r.1

-- A key that begins with a quote ends after its units and the bracket.
pub key_rest-quote : (cs : List ℕ) → key_rest (quote ∷ cs) ≡ closed (units_rest cs)
key_rest-quote cs = closed-units (first_units cs)

-- If the first character is a digit, digits are read up to the first other character.
first_digits-digit : (c : ℕ) (cs : List ℕ) → is_ascii_digit c ≡ true
    → option_map (λ r. r.1) (first_digits (c ∷ cs)) ≡ Some (without_digits cs)
unfolding first_digits
first_digits-digit c cs e =
    let n = prefix_len is_ascii_digit cs in
    let one : 1 + n ≡ suc n = omega arith in
    let some : eqb (suc n) 0 ≡ false = grind (arith, nat_tests) in
    rw (e, one, some) refl

-- If the first character is no digit, no digits are read.
first_digits-other : (c : ℕ) (cs : List ℕ) → is_ascii_digit c ≡ false → first_digits (c ∷ cs) ≡ None
unfolding first_digits
first_digits-other c cs e = rw e refl

-- A key that doesn't begin with a quote ends after its digits and the bracket.
key-digits : (c : ℕ) (cs : List ℕ) → c ≢ quote → key_rest (c ∷ cs) ≡ closed (option_map (λ r. r.1) (first_digits (c ∷ cs)))
key-digits c cs q = let test : eqb c quote ≡ false = grind (arith, nat_tests) in rw test (closed-digits (first_digits (c ∷ cs)))

-- A key that begins with a digit ends after its digits and the bracket.
pub key_rest-digit : (c : ℕ) (cs : List ℕ) → c ≢ quote → is_ascii_digit c ≡ true
    → key_rest (c ∷ cs) ≡ rest_after closing (without_digits cs)
key_rest-digit c cs q e = key-digits c cs q ∙ ap closed (first_digits-digit c cs e)

-- A key begins with a quote or a digit.
pub key_rest-other : (c : ℕ) (cs : List ℕ) → c ≢ quote → is_ascii_digit c ≡ false → key_rest (c ∷ cs) ≡ None
key_rest-other c cs q e = key-digits c cs q ∙ ap (λ o. closed (option_map (λ r. r.1) o)) (first_digits-other c cs e)

-- A digit and a closing bracket are the end of a key.
pub key_rest-one_digit : (c : ℕ) (cs : List ℕ) → 48 ≤ c → c < 58 → key_rest (c ∷ closing ∷ cs) ≡ Some cs
key_rest-one_digit c cs low high =
    let digit : is_ascii_digit c ≡ true = grind (arith, nat_tests) in
    key_rest-digit c (closing ∷ cs) (λ q. absurd (omega arith)) digit

-- A unit in quotes and a closing bracket are the end of a key.
pub key_rest-one_unit : (c : ℕ) (cs : List ℕ) → c ≢ quote → c ≢ backslash → key_rest (quote ∷ c ∷ quote ∷ closing ∷ cs) ≡ Some cs
key_rest-one_unit c cs q b =
    key_rest-quote (c ∷ quote ∷ closing ∷ cs)
    ∙ ap closed (units_rest-plain c (quote ∷ closing ∷ cs) q b ∙ units_rest-quote (closing ∷ cs))
