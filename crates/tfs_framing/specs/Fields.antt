-- The fields of a head (RFC 9110, section 5).
use Rattle.std.specs.Prelude.{◌≡◌, ℕ, List, [], ◌∷◌, map, filter}
use Rattle.std.specs.Char.{to_ascii_lowercase}
use Rattle.std.specs.Str.{bytes_eq}
use Rattle.httparse.specs.Grammar.{RequestHead}
use Rattle.httparse.specs.Spans.{name_and_value}
use Rattle.tfs_framing.specs.declared.fields.Values.{Values}
use Rattle.tfs_framing.specs.declared.fields.Values.TheVariants.{Absent, One, Several}

-- The names and trimmed values.
abbrev pub fields_of : RequestHead → List (List ℕ × List ℕ)
fields_of h = map name_and_value h.fields

abbrev pub lower : List ℕ → List ℕ
lower text = map to_ascii_lowercase text

-- The values by name, in any case (RFC 9110, section 5.1).
abbrev pub values_named : List ℕ → List (List ℕ × List ℕ) → List (List ℕ)
values_named name fields = map (λ f. f.1) (filter (λ f. bytes_eq (lower f.0) name) fields)

-- No value, or several.
abbrev pub IsNotOne : List (List ℕ) → Type 0
IsNotOne values = (value : List ℕ) → ¬ (values ≡ value ∷ [])

-- The values of type `Values`.
abbrev pub TellsValues : Values → List (List ℕ) → Type 0
TellsValues Absent values = values ≡ []
TellsValues (One value) values = values ≡ value.now ∷ []
TellsValues Several values = (first : List ℕ) × (second : List ℕ) × (others : List (List ℕ)) × (values ≡ first ∷ second ∷ others)
