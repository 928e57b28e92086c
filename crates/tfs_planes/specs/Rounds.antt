-- The steps of the closure: walks whose inner numbers are below a bound, and rows that are united
-- with rows of a block.
use Rattle.std.specs.Prelude.{◌⊎◌, ◌↔◌, ℕ, ◌+◌, ◌<◌, Bool, List, [], ◌∷◌, IsTrue}
use Rattle.tfs_planes.specs.Plane.{cell_at}
use Rattle.tfs_planes.specs.Row.{bit_at_word}

-- Number i is related to the first of the inner numbers, each of them to the next, and the last to
-- j.
abbrev pub Chain : (ℕ → ℕ → Type 0) → ℕ → List ℕ → ℕ → Type 0
Chain R i [] j = R i j
Chain R i (m ∷ ms) j = R i m × Chain R m ms j

-- Each number is below k.
abbrev pub EachBelow : ℕ → List ℕ → Type 0
EachBelow k [] = Unit {0}
EachBelow k (m ∷ ms) = (m < k) × EachBelow k ms

-- A walk leads from i to j whose inner numbers are below k.
abbrev pub JoinsBelow : (ℕ → ℕ → Type 0) → ℕ → ℕ → ℕ → Type 0
JoinsBelow R k i j = (ms : List ℕ) × Chain R i ms j × EachBelow k ms

-- The block, which begins with row `first`, is closed: a row that has the bit of another row of the
-- block has all bits of that row.
abbrev pub IsClosedBlock : ℕ → List ℕ → ℕ → ℕ → Type 0
IsClosedBlock length block width first =
    (a b j : ℕ) → a < width → b < width → IsTrue (cell_at length block a (first + b)) → IsTrue (cell_at length block b j) → IsTrue (cell_at length block a j)

-- Bit j is set in the row itself, or in a row of the block whose bit the row has.
abbrev pub TakesIn : ℕ → List ℕ → List ℕ → ℕ → ℕ → ℕ → Type 0
TakesIn length row block width first j =
    IsTrue (bit_at_word row j) ⊎ ((k : ℕ) × (k < width) × IsTrue (bit_at_word row (first + k)) × IsTrue (cell_at length block k j))

-- The set bits are exactly the walks whose inner numbers are below k.
abbrev pub AllJoins : ℕ → List ℕ → (ℕ → ℕ → Bool) → ℕ → Type 0
AllJoins length words related k =
    (i j : ℕ) → IsTrue (cell_at length words i j) ↔ JoinsBelow (λ a b. IsTrue (related a b)) k i j

-- The same for the rows of a block that begins with row `first`.
abbrev pub BlockJoins : ℕ → List ℕ → ℕ → ℕ → (ℕ → ℕ → Bool) → ℕ → Type 0
BlockJoins length block width first related k =
    (i j : ℕ) → i < width → IsTrue (cell_at length block i j) ↔ JoinsBelow (λ a b. IsTrue (related a b)) k (first + i) j
