-- Terraform's addresses of resource instances (Terraform documentation: resource address
-- reference): a text as a list of pieces, the text without its keys, and the addresses of a
-- configuration block and of its instances. A text is its bytes in UTF-8; pieces consist of
-- characters, each represented by its code.
use Rattle.std.specs.Prelude.{◌≡◌, ◌≢◌, ℕ, zero, suc, ◌<◌, ◌≤◌, true, ◌==◌, if◌then◌else◌, List, [], ◌∷◌, ◌++◌, length, take, drop, flat_map, Option, Some, None, IsSome, option_map, option_and_then, chars, encode_utf8_all, Result, Ok, Err, String, string_bytes, codes, decimal, ⊤}
use Rattle.std.specs.List.{AllByRecursion, prefix_len}
use Rattle.std.specs.Char.{is_ascii_digit}
use Rattle.serde_json.specs.Data.{string}
use Rattle.serde_json.specs.Written.{compact_text}
use Rattle.tfs_addr.specs.declared.resource.Mode.{Mode}
use Rattle.tfs_addr.specs.declared.resource.Mode.TheVariants.{Managed, DataSource}
use Rattle.tfs_addr.specs.declared.resource.Key.{Key}
use Rattle.tfs_addr.specs.declared.resource.Key.TheVariants.{Number, Text}
use Rattle.tfs_addr.specs.declared.fault.AddrFault.{AddrFault}
use Rattle.tfs_addr.specs.declared.fault.AddrFault.TheVariants.{Unclosed, StrayBracket, NoMemory}

-- '['
abbrev pub opening : ℕ
opening = 91

-- ']'
abbrev pub closing : ℕ
closing = 93

-- '"'
abbrev pub quote : ℕ
quote = 34

-- '\'
abbrev pub backslash : ℕ
backslash = 92

-- A unit of a text key: a character, or a backslash with the character after it.
pub data KeyUnit : Type 0 where
  plain : ℕ → KeyUnit
  escaped : ℕ → KeyUnit

-- A piece of a text: a character, a key of digits, or a key of a quoted text.
pub data Piece : Type 0 where
  character : ℕ → Piece
  number_key : List ℕ → Piece
  text_key : List KeyUnit → Piece

-- The characters of a unit.
abbrev pub print_unit : KeyUnit → List ℕ
print_unit (plain c) = c ∷ []
print_unit (escaped c) = backslash ∷ c ∷ []

-- The characters of a piece.
abbrev pub print_piece : Piece → List ℕ
print_piece (character c) = c ∷ []
print_piece (number_key digits) = opening ∷ (digits ++ closing ∷ [])
print_piece (text_key units) = opening ∷ quote ∷ (flat_map print_unit units ++ quote ∷ closing ∷ [])

-- The characters of a list of pieces.
abbrev pub print_pieces : List Piece → List ℕ
print_pieces pieces = flat_map print_piece pieces

-- A valid unit: a quote or a backslash occurs in a key only after a backslash.
abbrev pub IsUnit : KeyUnit → Type 0
IsUnit (plain c) = (c ≢ quote) × (c ≢ backslash)
IsUnit (escaped c) = ⊤

-- A valid piece: brackets occur only in keys, and a number has one or more ASCII digits.
abbrev pub IsPiece : Piece → Type 0
IsPiece (character c) = (c ≢ opening) × (c ≢ closing)
IsPiece (number_key digits) = (0 < length digits) × AllByRecursion (λ c. is_ascii_digit c ≡ true) digits
IsPiece (text_key units) = AllByRecursion IsUnit units

-- The text reads as these pieces.
pub record ReadsPieces (text : List ℕ) (pieces : List Piece) : Type 0 where
  pub valid : AllByRecursion IsPiece pieces
  pub printed : text ≡ encode_utf8_all (print_pieces pieces)

-- The character of a piece that isn't a key; nothing for a key.
abbrev pub bare_part : Piece → List ℕ
bare_part (character c) = c ∷ []
bare_part (number_key digits) = []
bare_part (text_key units) = []

-- The characters of the pieces that aren't keys.
abbrev pub without_keys : List Piece → List ℕ
without_keys pieces = flat_map bare_part pieces

-- The text reads as pieces, and `bare` consists of its characters without the keys.
abbrev pub IsStripped : List ℕ → List ℕ → Type 0
IsStripped text bare =
    (pieces : List Piece) × ReadsPieces text pieces × (bare ≡ encode_utf8_all (without_keys pieces))

-- The text doesn't read as pieces.
abbrev pub HasNoReading : List ℕ → Type 0
HasNoReading text = (pieces : List Piece) → ¬ (ReadsPieces text pieces)

-- No piece begins with the first of these characters.
abbrev pub BeginsNoPiece : List ℕ → Type 0
BeginsNoPiece cs = (piece : Piece) (rest : List ℕ) → IsPiece piece → cs ≢ print_piece piece ++ rest

-- The text begins with a sequence of pieces that has `size` bytes, and the characters `rest`
-- follow.
pub record BeginsWithPieces (text : List ℕ) (size : ℕ) (rest : List ℕ) : Type 0 where
  pub pieces : List Piece
  pub valid : AllByRecursion IsPiece pieces
  pub printed : text ≡ encode_utf8_all (print_pieces pieces ++ rest)
  pub bytes : size ≡ length (encode_utf8_all (print_pieces pieces))

-- The longest sequence of pieces at the beginning of the text has `at` bytes, and the character c
-- follows.
pub record StopsAt (text : List ℕ) (c at : ℕ) : Type 0 where
  pub rest : List ℕ
  pub begins : BeginsWithPieces text at (c ∷ rest)
  pub longest : (size : ℕ) (more : List ℕ) → BeginsWithPieces text size more → size ≤ at

-- The character c is at the first position at which no piece begins.
abbrev pub StopsBefore : List ℕ → ℕ → Type 0
StopsBefore text c = (at : ℕ) × StopsAt text c at

-- ---- The same as functions: each returns the first part of the characters and the rest.

-- The key, if its closing bracket comes next.
abbrev pub close_key : Piece → List ℕ → Option (Piece × List ℕ)
close_key key [] = None
close_key key (c ∷ cs) = if c == closing then Some (key, cs) else None

-- The digits at the beginning, if there is at least one.
unfoldable pub first_digits : List ℕ → Option (List ℕ × List ℕ)
first_digits cs =
    let count = prefix_len is_ascii_digit cs in
    if count == 0 then None else Some (take count cs, drop count cs)

-- The units with one more in front.
abbrev pub put_unit : KeyUnit → Option (List KeyUnit × List ℕ) → Option (List KeyUnit × List ℕ)
put_unit unit others = option_map (λ r. (unit ∷ r.0, r.1)) others

-- The units up to the quote that ends them.
unfoldable pub first_units : List ℕ → Option (List KeyUnit × List ℕ)
first_units [] = None
first_units (c ∷ []) = if c == quote then Some ([], []) else None
first_units (c ∷ d ∷ cs) =
    if c == quote then Some ([], d ∷ cs)
    else (if c == backslash then put_unit (escaped d) (first_units cs) else put_unit (plain c) (first_units (d ∷ cs)))

-- The key whose opening bracket precedes these characters.
abbrev pub first_key : List ℕ → Option (Piece × List ℕ)
first_key [] = None
first_key (c ∷ cs) =
    if c == quote then option_and_then (λ r. close_key (text_key r.0) r.1) (first_units cs)
    else option_and_then (λ r. close_key (number_key r.0) r.1) (first_digits (c ∷ cs))

-- The first piece.
unfoldable pub first_piece : List ℕ → Option (Piece × List ℕ)
first_piece [] = None
first_piece (c ∷ cs) =
    if c == opening then first_key cs else (if c == closing then None else Some (character c, cs))

-- All pieces, if there are at most `limit`.
unfoldable pub pieces_within : ℕ → List ℕ → Option (List Piece)
pieces_within limit [] = Some []
pieces_within zero (c ∷ cs) = None
pieces_within (suc limit) (c ∷ cs) =
    option_and_then (λ r. option_map (λ others. r.0 ∷ others) (pieces_within limit r.1)) (first_piece (c ∷ cs))

-- The text without its keys. Each piece has at least one character, so there are at most as many
-- pieces as characters.
unfoldable pub stripped_text : List ℕ → Option (List ℕ)
stripped_text text =
    option_map (λ pieces. encode_utf8_all (without_keys pieces)) (pieces_within (length (chars text)) (chars text))

-- A result agrees with the expected text: a returned text equals it, an error in the text means
-- that there is none, and NoMemory means that there is one.
abbrev pub GivesText : {A : Type 0} → Result (String A) AddrFault → Option (List ℕ) → Type 0
GivesText (Ok s) text = text ≡ Some (string_bytes s)
GivesText (Err NoMemory) text = IsSome text
GivesText (Err Unclosed) text = text ≡ None
GivesText (Err StrayBracket) text = text ≡ None

-- ---- The addresses of a resource.

-- The key that distinguishes an instance from the others of its configuration block.
pub data InstanceKey : Type 0 where
  by_number : ℕ → InstanceKey
  by_text : List ℕ → InstanceKey

-- A key without the location of its text in memory.
abbrev pub key_of : Key → InstanceKey
key_of (Number n) = by_number n
key_of (Text t) = by_text t.now

-- The printed form of a module's path and a dot; nothing for the root module, whose path is empty.
abbrev pub module_part : List ℕ → List ℕ → List ℕ
module_part [] printed = []
module_part (b ∷ path) printed = printed ++ codes "."

-- The prefix of a resource that Terraform only reads.
abbrev pub mode_part : Mode → List ℕ
mode_part Managed = []
mode_part DataSource = codes "data."

-- The resource within its module.
abbrev pub resource_part : Mode → List ℕ → List ℕ → List ℕ
resource_part mode kind name = mode_part mode ++ kind ++ codes "." ++ name

-- The key in brackets: a number in decimal, a text as JSON.
abbrev pub key_part : Option InstanceKey → List ℕ
key_part None = []
key_part (Some (by_number n)) = codes "[" ++ decimal n ++ codes "]"
key_part (Some (by_text t)) = codes "[" ++ compact_text (string t) ++ codes "]"

-- The key of a deposed object.
abbrev pub deposed_part : Option (List ℕ) → List ℕ
deposed_part None = []
deposed_part (Some key) = codes " (deposed " ++ key ++ codes ")"

-- The address of the configuration block, if the module's path reads as pieces.
abbrev pub configuration_address : List ℕ → Mode → List ℕ → List ℕ → Option (List ℕ)
configuration_address path mode kind name =
    option_map (λ bare. module_part path bare ++ resource_part mode kind name) (stripped_text path)

-- The address of one instance.
abbrev pub instance_address : List ℕ → Mode → List ℕ → List ℕ → Option InstanceKey → Option (List ℕ) → List ℕ
instance_address path mode kind name key deposed =
    module_part path path ++ resource_part mode kind name ++ key_part key ++ deposed_part deposed
