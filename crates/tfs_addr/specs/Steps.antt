-- The results of the private functions. A list of numbers is either the characters of a text or its
-- bytes: keys end at the same position in both.
use Rattle.std.specs.Prelude.{◌≡◌, ◌≢◌, ℕ, ◌⊎◌, ◌==◌, if◌then◌else◌, List, [], ◌∷◌, ◌++◌, drop, Option, Some, None, option_map, ⊤}
use Rattle.std.specs.List.{AllByRecursion, prefix_len}
use Rattle.std.specs.Char.{is_ascii_digit}
use Rattle.serde_json.specs.Data.{string}
use Rattle.serde_json.specs.Written.{compact_text}
use Rattle.tfs_addr.specs.declared.fault.AddrFault.{AddrFault}
use Rattle.tfs_addr.specs.declared.fault.AddrFault.TheVariants.{Unclosed, StrayBracket, NoMemory}
use Rattle.tfs_addr.specs.Address.{opening, closing, Piece, IsPiece, print_piece, bare_part, StopsBefore, first_units, first_key}

-- Neither character occurs in the list.
abbrev pub HasNeither : ℕ → ℕ → List ℕ → Type 0
HasNeither a b cs = AllByRecursion (λ c. (c ≢ a) × (c ≢ b)) cs

-- The characters after `mark`, if the text begins with it.
abbrev pub rest_after : ℕ → List ℕ → Option (List ℕ)
rest_after mark [] = None
rest_after mark (c ∷ cs) = if c == mark then Some cs else None

-- The text is empty or begins with one of the two characters.
abbrev pub MayBeginWith : ℕ → ℕ → List ℕ → Type 0
MayBeginWith a b [] = ⊤
MayBeginWith a b (c ∷ cs) = (c ≡ a) ⊎ (c ≡ b)

-- The characters are a key followed by `rest`.
abbrev pub IsKeyThen : List ℕ → List ℕ → Type 0
IsKeyThen cs rest = (key : Piece) × IsPiece key × (bare_part key ≡ []) × (cs ≡ print_piece key ++ rest)

-- The characters after the quote that ends the units.
abbrev pub units_rest : List ℕ → Option (List ℕ)
units_rest cs = option_map (λ r. r.1) (first_units cs)

-- The characters after the key whose opening bracket precedes `cs`.
abbrev pub key_rest : List ℕ → Option (List ℕ)
key_rest cs = option_map (λ r. r.1) (first_key cs)

-- The characters after the digits at the beginning.
abbrev pub without_digits : List ℕ → List ℕ
without_digits cs = drop (prefix_len is_ascii_digit cs) cs

-- The JSON form of a text without its opening quote.
abbrev pub after_quote : List ℕ → List ℕ
after_quote text = drop 1 (compact_text (string text))

-- `shown` is the JSON form of the bytes, whatever follows them.
abbrev pub IsShown : List ℕ → List ℕ → Type 0
IsShown bytes shown = (rest : List ℕ) → after_quote (bytes ++ rest) ≡ shown ++ after_quote rest

-- The characters begin with the bracket that the fault names.
abbrev pub IsBracketOf : AddrFault → List ℕ → Type 0
IsBracketOf Unclosed cs = (rest : List ℕ) × (cs ≡ opening ∷ rest)
IsBracketOf StrayBracket cs = (rest : List ℕ) × (cs ≡ closing ∷ rest)
IsBracketOf NoMemory cs = ⊥

-- The bracket at which reading the text stops, for each fault of a text.
abbrev pub FaultOf : List ℕ → AddrFault → Type 0
FaultOf text Unclosed = StopsBefore text opening
FaultOf text StrayBracket = StopsBefore text closing
FaultOf text NoMemory = ⊥
