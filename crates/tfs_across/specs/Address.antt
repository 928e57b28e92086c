-- The workspace that an address of a state names: a URL (RFC 3986, section 3) whose path ends in
-- `/state/` and the name. Any scheme, authority and earlier part of the path count.
use Rattle.std.specs.Prelude.{ℕ, ◌==◌, List, [], ◌∷◌, codes, length, nat_lt, if◌then◌else◌, Option, Some, None, option_and_then, option_map}
use Rattle.std.specs.List.{before_first, after_first, position_or_len}
use Rattle.std.specs.Option.{option_map_or}
use Rattle.std.specs.Path.{rsplit_once}
use Rattle.std.specs.Str.{bytes_eq}
use Rattle.percent_encoding.specs.Percent.{percent_decode}

-- The text before the first byte c, or all of it.
abbrev pub text_before : ℕ → List ℕ → List ℕ
text_before c text = before_first (λ byte. byte == c) text

-- The text after the first byte c, if there is one.
abbrev pub text_after : ℕ → List ℕ → Option (List ℕ)
text_after c text = if nat_lt (position_or_len (λ byte. byte == c) text) (length text)
    then Some (after_first (λ byte. byte == c) text) else None

-- The address without its fragment (`#`, 35) and its query (`?`, 63).
abbrev pub bare : List ℕ → List ℕ
bare address = text_before 63 (text_before 35 address)

-- The text after a slash (47) that it begins with.
abbrev pub after_slash : List ℕ → Option (List ℕ)
after_slash [] = None
after_slash (byte ∷ rest) = if byte == 47 then Some rest else None

-- The path of an address without its first slash: the text after the scheme and its colon (58), two
-- slashes, and the authority with its slash.
abbrev pub path_of : List ℕ → Option (List ℕ)
path_of address = option_and_then (text_after 47)
    (option_and_then after_slash (option_and_then after_slash (text_after 58 (bare address))))

-- The last segment of a path.
abbrev pub last_segment : List ℕ → List ℕ
last_segment path = option_map_or (λ parts. parts.1) (rsplit_once 47 path) path

-- The last segment of a path, if its predecessor is `state`. The path is given in two parts, the
-- segments before the last and the last.
abbrev pub state_segment : List ℕ × List ℕ → Option (List ℕ)
state_segment parts = if bytes_eq (last_segment parts.0) (codes "state") then Some parts.1 else None

-- The name in an address, percent-decoded.
unfoldable pub name_in : List ℕ → Option (List ℕ)
name_in address = option_map percent_decode
    (option_and_then state_segment (option_and_then (rsplit_once 47) (path_of address)))
