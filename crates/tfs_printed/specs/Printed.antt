-- The characters that a terminal prints at their positions, and the escapes of the others (Unicode,
-- 'General_Category'; RFC 8259, section 7).
use Rattle.std.specs.Prelude.{ℕ, ◌+◌, ◌-◌, ◌/◌, ◌%◌, Bool, ◌||◌, ◌==◌, not, nat_lt, List, [], ◌∷◌, ◌++◌, codes, if◌then◌else◌, encode_utf8}
use Rattle.std.specs.Char.{digit_char}
use Rattle.ucd_category.specs.GeneralCategory.{general_category, general_category_eq}
use Rattle.ucd_category.specs.declared.GeneralCategory.{GeneralCategory}
use Rattle.ucd_category.specs.declared.GeneralCategory.TheVariants.{Control, Format, LineSeparator, ParagraphSeparator}

-- The categories Cc, Cf, Zl and Zp.
abbrev pub is_unprinted : GeneralCategory → Bool
is_unprinted g = general_category_eq g Control || (general_category_eq g Format
    || (general_category_eq g LineSeparator || general_category_eq g ParagraphSeparator))

-- A character of any other category.
abbrev pub is_printed : ℕ → Bool
is_printed c = not (is_unprinted (general_category c))

-- The hexadecimal digit with place value p, if the number has a digit there.
abbrev pub place_text : ℕ → ℕ → List ℕ
place_text p c = if nat_lt c p then [] else digit_char (c / p % 16) ∷ []

-- The code point of a character, as in `\u{202e}`.
abbrev pub number_text : ℕ → List ℕ
number_text c = codes "\\u{" ++ (place_text 0x10_0000 c ++ (place_text 0x1_0000 c ++ (place_text 0x1000 c ++ (place_text 0x100 c
    ++ (place_text 0x10 c ++ (digit_char (c % 16) ∷ codes "}"))))))

-- A UTF-16 code unit, as in `\u202e`.
unfoldable pub unit_text : ℕ → List ℕ
unit_text u = codes "\\u" ++ (digit_char (u / 4096 % 16) ∷ digit_char (u / 256 % 16) ∷ digit_char (u / 16 % 16) ∷ digit_char (u % 16) ∷ [])

-- The surrogate pair of the code point n + 0x10000.
abbrev pub pair_text : ℕ → List ℕ
pair_text n = unit_text (0xD800 + n / 0x400) ++ unit_text (0xDC00 + n % 0x400)

-- The UTF-16 code units of a code point (RFC 8259, section 7).
abbrev pub units_text : ℕ → List ℕ
units_text c = if nat_lt c 0x1_0000 then unit_text c else pair_text (c - 0x1_0000)

-- The bytes of a character in a table.
abbrev pub printed : ℕ → List ℕ
printed c = if is_printed c then encode_utf8 c else number_text c

-- The bytes of a character in a JSON text.
abbrev pub json : ℕ → List ℕ
json c = if is_printed c then encode_utf8 c else units_text c

-- The bytes of a character in a picture, in which line feeds are kept. Graphviz draws two
-- backslashes as one.
abbrev pub drawn : ℕ → List ℕ
drawn c = if is_printed c || c == 10 then encode_utf8 c else 92 ∷ number_text c
