-- The body of an impact's reply, produced in pieces: the text that is left at each point.
use Rattle.std.specs.Prelude.{◌≡◌, ◌<◌, ◌+◌, ◌*◌, ℕ, Bool, true, List, [], ◌∷◌, ◌++◌, length, get_or, codes, decimal, Option, Some, None, if◌then◌else◌}
use Rattle.json.specs.Print.{escape}
use Rattle.tfs_state.specs.Document.{Document}
use Rattle.tfs_state.specs.Dependency.{address_of}
use Rattle.tfs_http.specs.declared.pieces.BegunText.{BegunText}
use Rattle.tfs_http.specs.declared.pieces.BodyPlace.{BodyPlace}

-- The bytes before an address: its quote, and after another address also that one's quote and a
-- comma.
abbrev pub before_address : Bool → List ℕ
before_address later = if later then codes "\",\"" else codes "\""

-- The bytes after the last address: its quote.
abbrev pub after_addresses : Bool → List ℕ
after_addresses later = if later then codes "\"" else []

-- An address, if there is one, and the text after it.
abbrev pub with_address : Bool → Option (List ℕ) → List ℕ → List ℕ → List ℕ
with_address later None without behind = without
with_address later (Some address) without behind = before_address later ++ (escape address ++ behind)

-- The text that is left of the addresses of the instances with these numbers; `later` says whether
-- an address came before. Numbers without an instance are skipped.
abbrev pub addresses_left : Document → Bool → List ℕ → List ℕ
addresses_left d later [] = after_addresses later
addresses_left d later (i ∷ numbers) = with_address later (address_of d i) (addresses_left d later numbers) (addresses_left d true numbers)

-- The end of the body, after the addresses.
abbrev pub ending_text : ℕ → ℕ → List ℕ
ending_text position serial = codes "],\"position\":" ++ (decimal position ++ (codes ",\"serial\":" ++ (decimal serial ++ codes "}")))

-- The text of a `BegunText`.
abbrev pub begun_text : BegunText → List ℕ
begun_text b = b.plain.now ++ (escape b.front.now ++ escape b.tail.now)

-- The text that is left of all addresses.
abbrev pub place_text : Document → BodyPlace → List ℕ
place_text d p = begun_text p.begun ++ addresses_left d p.later p.numbers.now

-- A bound on the number of steps to the end of the addresses.
abbrev pub steps_left : Bool → List ℕ → ℕ
steps_left later numbers = 2 * length numbers + (if later then 1 else 0)

-- The text is produced in these pieces: each is at the front of what the earlier ones left, and the
-- last leaves nothing.
abbrev pub IsToldIn : List ℕ → List (List ℕ) → Type 0
IsToldIn text [] = text ≡ []
IsToldIn text (piece ∷ pieces) = (left : List ℕ) × (piece ++ left ≡ text) × IsToldIn left pieces

-- The first `count` numbers are consecutive, starting with `first`.
abbrev pub IsRun : List ℕ → ℕ → ℕ → Type 0
IsRun numbers first count = (k : ℕ) → k < count → get_or numbers k 0 ≡ first + k
