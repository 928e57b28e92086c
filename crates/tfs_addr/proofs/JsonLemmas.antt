-- The JSON form of the characters of a text.
use Rattle.std.proofs.Common.{◌≡◌, ◌≢◌, ℕ, suc, ◌/◌, ◌%◌, ◌<◌, ◌≤◌, true, false, eqb, ltb, if◌then◌else◌, List, [], ◌∷◌, ◌++◌, length, get_or, Result, Ok, Err, inl, inr, refl, sym, ap, ◌∙◌, arith, append_assoc, append-nil}
use Rattle.std.specs.Prelude.{encode_utf8}
use Rattle.std.specs.Result.{is_ok, OnOk}
use Rattle.std.specs.Char.{digit_char}
use Rattle.std.proofs.lemmas.Str.{encode_ascii, inside_one}
use Rattle.std.proofs.lemmas.Bool.{cases_lt}
use Rattle.std.proofs.lemmas.Bool.Decides.{nat_tests}
use Rattle.serde_json.specs.Data.{string}
use Rattle.serde_json.specs.Written.{compact_text}
use Rattle.serde_json.proofs.OnLiterals.{serde_json_on_literals}
use Rattle.tfs_addr.specs.Steps.{after_quote, IsShown}

-- ---- Bytes.

-- A quote has an escape of two characters.
pub shown-quote : IsShown (34 ∷ []) (92 ∷ 34 ∷ [])
unfolding serde_json_on_literals
shown-quote rest = refl

-- A backslash has an escape of two characters.
pub shown-backslash : IsShown (92 ∷ []) (92 ∷ 92 ∷ [])
unfolding serde_json_on_literals
shown-backslash rest = refl

-- A backspace has an escape of two characters.
pub shown-backspace : IsShown (8 ∷ []) (92 ∷ 98 ∷ [])
unfolding serde_json_on_literals
shown-backspace rest = refl

-- A form feed has an escape of two characters.
pub shown-form_feed : IsShown (12 ∷ []) (92 ∷ 102 ∷ [])
unfolding serde_json_on_literals
shown-form_feed rest = refl

-- A line feed has an escape of two characters.
pub shown-line_feed : IsShown (10 ∷ []) (92 ∷ 110 ∷ [])
unfolding serde_json_on_literals
shown-line_feed rest = refl

-- A carriage return has an escape of two characters.
pub shown-carriage_return : IsShown (13 ∷ []) (92 ∷ 114 ∷ [])
unfolding serde_json_on_literals
shown-carriage_return rest = refl

-- A tab has an escape of two characters.
pub shown-tab : IsShown (9 ∷ []) (92 ∷ 116 ∷ [])
unfolding serde_json_on_literals
shown-tab rest = refl

-- Any other byte below 32 is shown as `\u` and its code in four hexadecimal digits.
pub shown-code : (x : ℕ) → x < 32 → x ≢ 8 → x ≢ 12 → x ≢ 10 → x ≢ 13 → x ≢ 9
    → IsShown (x ∷ []) (92 ∷ 117 ∷ 48 ∷ 48 ∷ digit_char (x / 16) ∷ digit_char (x % 16) ∷ [])
unfolding serde_json_on_literals
shown-code x low b f n r t rest =
    let no_quote : eqb x 34 ≡ false = grind (arith, nat_tests) in
    let no_backslash : eqb x 92 ≡ false = grind (arith, nat_tests) in
    let no_backspace : eqb x 8 ≡ false = grind (arith, nat_tests) in
    let no_feed : eqb x 12 ≡ false = grind (arith, nat_tests) in
    let no_line : eqb x 10 ≡ false = grind (arith, nat_tests) in
    let no_return : eqb x 13 ≡ false = grind (arith, nat_tests) in
    let no_tab : eqb x 9 ≡ false = grind (arith, nat_tests) in
    let control : ltb x 32 ≡ true = grind (arith, nat_tests) in
    rw (no_quote, no_backslash, no_backspace, no_feed, no_line, no_return, no_tab, control) refl

-- Any other byte is shown as itself.
shown-plain : (x : ℕ) → 32 ≤ x → x ≢ 34 → x ≢ 92 → IsShown (x ∷ []) (x ∷ [])
unfolding serde_json_on_literals
shown-plain x low q b rest =
    let no_quote : eqb x 34 ≡ false = grind (arith, nat_tests) in
    let no_backslash : eqb x 92 ≡ false = grind (arith, nat_tests) in
    let no_backspace : eqb x 8 ≡ false = grind (arith, nat_tests) in
    let no_feed : eqb x 12 ≡ false = grind (arith, nat_tests) in
    let no_line : eqb x 10 ≡ false = grind (arith, nat_tests) in
    let no_return : eqb x 13 ≡ false = grind (arith, nat_tests) in
    let no_tab : eqb x 9 ≡ false = grind (arith, nat_tests) in
    let no_control : ltb x 32 ≡ false = grind (arith, nat_tests) in
    rw (no_quote, no_backslash, no_backspace, no_feed, no_line, no_return, no_tab, no_control) refl

-- The JSON form of a text ends with a quote.
pub shown-end : after_quote [] ≡ 34 ∷ []
unfolding serde_json_on_literals
shown-end = refl

-- The JSON form of a text begins with a quote.
pub shown-begin : (text : List ℕ) → 34 ∷ after_quote text ≡ compact_text (string text)
unfolding serde_json_on_literals
shown-begin text = refl

-- Bytes that aren't ASCII are shown as themselves.
shown-high : (xs : List ℕ) → ((k : ℕ) → k < length xs → 128 ≤ get_or xs k 0) → IsShown xs xs
shown-high [] h rest = refl
shown-high (x ∷ xs) h rest =
    let first : 128 ≤ x = h 0 (omega arith) in
    shown-plain x (omega arith) (λ e. omega arith) (λ e. omega arith) (xs ++ rest)
    ∙ ap (λ (t : List ℕ). x ∷ t) (shown-high xs (λ k low. h (suc k) (omega arith)) rest)

-- ---- Characters.

-- The bytes of a character that isn't ASCII aren't ASCII.
byte_is_high : (c k : ℕ) → 128 ≤ c → k < length (encode_utf8 c) → 128 ≤ get_or (encode_utf8 c) k 0
byte_is_high c k high low =
    elim (cases_lt (get_or (encode_utf8 c) k 0) 128) [
      | inl small ↦ absurd (omega (arith, inside_one c [] (encode_utf8 c) k (sym (append-nil (encode_utf8 c))) low small))
      | inr large ↦ large
    ]

-- An ASCII character is shown as its byte.
pub shown-ascii : (c m : ℕ) (shown : List ℕ) → c ≡ m → m < 128 → IsShown (m ∷ []) shown → IsShown (encode_utf8 c) shown
shown-ascii c m shown e small h = rw (ap encode_utf8 e ∙ encode_ascii m small) h

-- A character without an escape is shown as itself.
pub shown-itself : (c : ℕ) → 32 ≤ c → c ≢ 34 → c ≢ 92 → IsShown (encode_utf8 c) (encode_utf8 c)
shown-itself c low q b =
    elim (cases_lt c 128) [
      | inl small ↦ rw (encode_ascii c small) (shown-plain c low q b)
      | inr high ↦ shown-high (encode_utf8 c) (λ k inside. byte_is_high c k high inside)
    ]

-- ---- Writing.

-- If a call that succeeds appends the form of bytes, then the new text followed by the form of the
-- rest is the old text followed by the form of both.
pub shown-pushed : {T E : Type 0} (r : Result T E) (old new bytes shown : List ℕ) → new ≡ (if is_ok r then old ++ shown else old)
    → IsShown bytes shown → OnOk r ((rest : List ℕ) → new ++ after_quote rest ≡ old ++ after_quote (bytes ++ rest))
shown-pushed (Ok x) old new bytes shown e h =
    λ rest. ap (λ (t : List ℕ). t ++ after_quote rest) e ∙ append_assoc old shown (after_quote rest) ∙ ap (λ (t : List ℕ). old ++ t) (sym (h rest))
shown-pushed (Err x) old new bytes shown e h = tt

-- The law above for a call that states its effect for success only.
pub shown-appended : {T E : Type 0} (r : Result T E) (old new bytes shown : List ℕ) → OnOk r (new ≡ old ++ shown)
    → IsShown bytes shown → OnOk r ((rest : List ℕ) → new ++ after_quote rest ≡ old ++ after_quote (bytes ++ rest))
shown-appended (Ok x) old new bytes shown e h =
    λ rest. ap (λ (t : List ℕ). t ++ after_quote rest) e ∙ append_assoc old shown (after_quote rest) ∙ ap (λ (t : List ℕ). old ++ t) (sym (h rest))
shown-appended (Err x) old new bytes shown e h = tt
