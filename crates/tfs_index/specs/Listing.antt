-- The addresses of instances as elements of a list of JSON texts.
use Rattle.std.specs.Prelude.{◌≡◌, ◌<◌, ◌≤◌, ◌+◌, ℕ, List, [], ◌++◌, length, get_or, codes, zero, suc, Option, Some, None}
use Rattle.json.specs.Print.{escape}
use Rattle.tfs_state.specs.Document.{Document}
use Rattle.tfs_state.specs.Dependency.{address_of}
use Rattle.tfs_index.specs.declared.listing.Listing.{Listing}

-- An address after another one: the closing quote of the previous address, a comma, the opening
-- quote, and the escaped address.
abbrev pub next_address : Option (List ℕ) → List ℕ
next_address None = []
next_address (Some address) = codes "\",\"" ++ escape address

-- The addresses of `count` instances from `first` on, each in the form that follows another
-- address.
abbrev pub addresses_from : Document → ℕ → ℕ → List ℕ
addresses_from d first zero = []
addresses_from d first (suc count) = addresses_from d first count ++ next_address (address_of d (first + count))

-- The texts of a document's first instances, and the position at which each ends.
pub record IsListing (d : Document) (listing : Listing) : Type 0 where
  pub within : length listing.ends.items ≤ length d.instances
  pub text : listing.text.items ≡ addresses_from d 0 (length listing.ends.items)
  pub ends : (i : ℕ) → i < length listing.ends.items → get_or listing.ends.items i 0 ≡ length (addresses_from d 0 (i + 1))
