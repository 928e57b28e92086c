-- Requests to close the connection (RFC 9112, sections 9.3 and 9.6).
use Rattle.std.specs.Prelude.{◌==◌, ◌||◌, ℕ, Bool, List, [], ◌∷◌, codes, if◌then◌else◌}
use Rattle.std.specs.List.{list_any}
use Rattle.std.specs.Str.{bytes_eq}
use Rattle.httparse.specs.Grammar.{RequestHead, trim_ows}
use Rattle.tfs_framing.specs.Fields.{fields_of, values_named, lower}

abbrev pub comma : ℕ
comma = 44

-- Puts a byte before the first part.
abbrev pub lengthen : ℕ → List (List ℕ) → List (List ℕ)
lengthen byte [] = (byte ∷ []) ∷ []
lengthen byte (part ∷ parts) = (byte ∷ part) ∷ parts

-- The parts of a comma-separated list (RFC 9110, section 5.6.1).
unfoldable pub parts_of : List ℕ → List (List ℕ)
parts_of [] = [] ∷ []
parts_of (byte ∷ text) = if byte == comma then [] ∷ parts_of text else lengthen byte (parts_of text)

-- The part is `close`, trimmed and in any case.
abbrev pub is_close : List ℕ → Bool
is_close part = bytes_eq (lower (trim_ows part)) (codes "close")

-- The value of a `Connection` field lists `close`.
abbrev pub lists_close : List ℕ → Bool
lists_close value = list_any is_close (parts_of value)

-- The conversation ends after version 1.0 or `close` (RFC 9112, section 9.3).
abbrev pub asks_to_close : RequestHead → Bool
asks_to_close h = h.minor == 0 || list_any lists_close (values_named (codes "connection") (fields_of h))
