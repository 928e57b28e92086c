-- Lemmas about the body lengths in fields.
use Rattle.std.proofs.Common.{◌≡◌, ◌≤◌, ◌<◌, ◌^◌, ℕ, List, [], ◌∷◌, ◌++◌, length, Bool, true, false, ◌&&◌, ◌==◌, nat_lt, nat_le, Err, refl, sym, ◌∙◌}
use Rattle.std.proofs.Common.{ap, subst, arith, map, All, Option, Some, None, is_some, option_to_list, option_copied, Bor}
use Rattle.std.specs.List.{list_all}
use Rattle.std.specs.Char.{is_ascii_digit, to_ascii_lowercase}
use Rattle.std.specs.Str.{IsUtf8, bytes_eq}
use Rattle.std.specs.Str.Parse.{AllDigits, IsNumeral, digits_value, without_leading_plus}
use Rattle.std.proofs.lemmas.Bool.{leb-true, ltb-true, eqb-true, false_from_ne_true}
use Rattle.std.proofs.lemmas.Str.{IsUtf8-from_ascii, digit_value_digit}
use Rattle.std.proofs.lemmas.List.Elements.{All-tail}
use Rattle.std.proofs.lemmas.Fmt.{IsAscii-from_digits}
use Rattle.tfs_calls.specs.declared.refusal.Refusal.TheVariants.{BodyTooLarge}
use Rattle.httparse.specs.declared.spans.HeaderSpan.{HeaderSpan}
use Rattle.httparse.specs.Spans.{span_bytes, header_bytes, IsHeaderWithin}
use Rattle.tfs_framing.specs.Body.{length_of_text}
use Rattle.tfs_framing.specs.Fields.{values_named}

-- If a conjunction is true, both parts are.
and_true : (x y : Bool) → (x && y) ≡ true → (x ≡ true) × (y ≡ true)
and_true true y e = (refl, e)
and_true false y e = cc

-- The bytes of decimal digits are 48 to 57.
digit_range : (c : ℕ) → is_ascii_digit c ≡ true → (48 ≤ c) × (c ≤ 57)
digit_range c e = let both = and_true (nat_le 48 c) (nat_le c 57) e in (leb-true 48 c both.0, leb-true c 57 both.1)

-- Bytes that pass `is_ascii_digit` are digits.
digits_from_test : (text : List ℕ) → list_all is_ascii_digit text ≡ true → AllDigits 10 text
digits_from_test [] e = tt
digits_from_test (c ∷ cs) e =
    let both = and_true (is_ascii_digit c) (list_all is_ascii_digit cs) e in
    let range = digit_range c both.0 in
    let value = digit_value_digit c range in
    (omega (arith, value, range), digits_from_test cs both.1)

-- A text of digits that isn't empty is a numeral, is UTF-8 and has no sign.
pub numeral_from_test : (text : List ℕ) → (nat_lt 0 (length text) && list_all is_ascii_digit text) ≡ true
    → IsNumeral 10 text × IsUtf8 text × (without_leading_plus text ≡ text)
numeral_from_test [] e = cc
numeral_from_test (c ∷ cs) e =
    let both = and_true (nat_lt 0 (length (c ∷ cs))) (list_all is_ascii_digit (c ∷ cs)) e in
    let digits = digits_from_test (c ∷ cs) both.1 in
    let range = digit_range c (and_true (is_ascii_digit c) (list_all is_ascii_digit cs) both.1).0 in (
      (ltb-true 0 (length (c ∷ cs)) both.0, digits),
      IsUtf8-from_ascii (c ∷ cs) (IsAscii-from_digits (c ∷ cs) digits),
      rw (false_from_ne_true (c == 43) (λ t. let wrong = eqb-true c 43 t in omega arith)) refl,
    )

-- A numeral that doesn't fit in 64 bits is too large for a body.
pub length_beyond : (text digits : List ℕ) → digits ≡ text → (nat_lt 0 (length text) && list_all is_ascii_digit text) ≡ true
    → ¬ (IsNumeral 10 (without_leading_plus digits) × (digits_value 10 (without_leading_plus digits) < 2 ^ 64)) → Err BodyTooLarge ≡ length_of_text text
length_beyond text digits same test none =
    let numeral = numeral_from_test text test in
    let plain : without_leading_plus digits ≡ text = ap without_leading_plus same ∙ numeral.2 in
    let large : ¬ (digits_value 10 text ≤ 16777216) = λ small.
    none (rw plain (numeral.0, omega arith)) in
    rw (test, false_from_ne_true (nat_le (digits_value 10 text) 16777216) (λ t. large (leb-true (digits_value 10 text) 16777216 t))) refl

-- If the next field has the name, its value is the next value.
pub value_found : (name head found value : List ℕ) (rest others : List HeaderSpan) (field : HeaderSpan) → rest ≡ field ∷ others
    → found ≡ span_bytes head field.name → value ≡ span_bytes head field.value → bytes_eq (map to_ascii_lowercase found) name ≡ true
    → values_named name (map (header_bytes head) rest) ≡ value ∷ values_named name (map (header_bytes head) others)
value_found name head found value rest others field split is_name is_value test =
    let named : bytes_eq (map to_ascii_lowercase (span_bytes head field.name)) name ≡ true = ap (λ t. bytes_eq (map to_ascii_lowercase t) name) (sym is_name)
    ∙ test in
    rw (split, named, is_value) refl

-- If the next field has another name, it adds no value.
pub value_absent : (name head found : List ℕ) (rest others : List HeaderSpan) (field : HeaderSpan) → rest ≡ field ∷ others
    → found ≡ span_bytes head field.name → bytes_eq (map to_ascii_lowercase found) name ≡ false
    → values_named name (map (header_bytes head) rest) ≡ values_named name (map (header_bytes head) others)
value_absent name head found rest others field split is_name test =
    let named : bytes_eq (map to_ascii_lowercase (span_bytes head field.name)) name ≡ false = ap (λ t. bytes_eq (map to_ascii_lowercase t) name) (sym is_name)
    ∙ test in
    rw (split, named) refl

-- If no value was found before, the value of this field is the first.
pub first_value : (name head found value : List ℕ) (values : List (List ℕ)) (old : Option (Bor (List ℕ))) (rest others : List HeaderSpan) (field : HeaderSpan)
    → rest ≡ field ∷ others
    → found ≡ span_bytes head field.name → value ≡ span_bytes head field.value → true ≡ bytes_eq (map to_ascii_lowercase found) name → false ≡ is_some old
    → values ≡ option_to_list (option_copied old) ++ values_named name (map (header_bytes head) rest)
    → values ≡ value ∷ values_named name (map (header_bytes head) others)
first_value name head found value values None rest others field split is_name is_value test none e =
    e ∙ value_found name head found value rest others field split is_name is_value (sym test)
first_value name head found value values (Some x) rest others field split is_name is_value test none e = cc

-- The remaining fields are within the head too.
pub within_rest : (len : ℕ) (rest others : List HeaderSpan) (field : HeaderSpan) → rest ≡ field ∷ others
    → All (IsHeaderWithin len) rest → All (IsHeaderWithin len) others
within_rest len rest others field split within =
    All-tail (IsHeaderWithin len) field others (subst (All (IsHeaderWithin len)) split within)
