-- The query of a target (RFC 9112, section 3.2.1), read as form data (URL Standard, section 5).
use Rattle.std.specs.Prelude.{◌==◌, ℕ, List, [], ◌∷◌, map, filter, codes, Option, Some, None, if◌then◌else◌}
use Rattle.std.specs.List.{after_first}
use Rattle.std.specs.Str.{bytes_eq}
use Rattle.std.specs.Str.Lossy.{utf8_lossy}
use Rattle.form_urlencoded.specs.Form.{raw_pairs, decode}

-- The byte `?`.
abbrev pub question_mark : ℕ
question_mark = 63

-- The text after the first question mark of a target, or the empty text without one.
abbrev pub query_of : List ℕ → List ℕ
query_of target = after_first (λ byte. byte == question_mark) target

-- The decoded text of a name or a value; parts that aren't UTF-8 become U+FFFD.
abbrev pub decoded : List ℕ → List ℕ
decoded bytes = utf8_lossy (decode bytes)

-- The decoded value of the first pair with this name.
unfoldable pub first_value : List ℕ → List (List ℕ × List ℕ) → Option (List ℕ)
first_value name [] = None
first_value name (pair ∷ pairs) = if bytes_eq (decoded pair.0) name then Some (decoded pair.1) else first_value name pairs

-- The parameter `ID` of a target.
abbrev pub identifier_parameter : List ℕ → Option (List ℕ)
identifier_parameter target = first_value (codes "ID") (raw_pairs (query_of target))

-- The decoded values of all pairs with this name, in order.
abbrev pub all_values : List ℕ → List (List ℕ × List ℕ) → List (List ℕ)
all_values name pairs = map (λ pair. decoded pair.1) (filter (λ pair. bytes_eq (decoded pair.0) name) pairs)

-- The parameters `of` of a target.
abbrev pub texts_parameter : List ℕ → List (List ℕ)
texts_parameter target = all_values (codes "of") (raw_pairs (query_of target))
