-- The closure in an order: a row is united with the rows of its targets, which are placed before
-- it.
use Rattle.std.specs.Prelude.{◌≢◌, ◌⊎◌, ◌↔◌, ℕ, ◌<◌, ◌≤◌, Bool, List, IsTrue}
use Rattle.tfs_planes.specs.Plane.{cell_at}
use Rattle.tfs_planes.specs.Row.{bit_at_word}
use Rattle.tfs_planes.specs.Walk.{Joins}

-- Number t is a target of row `row`, whose bits are `own`: another row whose bit is set in it.
abbrev pub IsTarget : List ℕ → ℕ → ℕ → Type 0
IsTarget own row t = IsTrue (bit_at_word own t) × (t ≢ row)

-- Each placed row has all bits of the rows whose bits it has.
abbrev pub ArePlacedClosed : ℕ → List ℕ → List ℕ → Type 0
ArePlacedClosed length words placed =
    (t a b : ℕ) → IsTrue (bit_at_word placed t) → IsTrue (cell_at length words t a) → IsTrue (cell_at length words a b) → IsTrue (cell_at length words t b)

-- The bits `came` collected for row `row`: each is the row's own or from the row of a target, and
-- they include the whole row of each number in them.
pub record HasCome (length : ℕ) (words own : List ℕ) (row : ℕ) (came : List ℕ) : Type 0 where
  pub sound : (j : ℕ) → IsTrue (bit_at_word came j) → IsTrue (bit_at_word own j) ⊎ ((t : ℕ) × IsTarget own row t × IsTrue (cell_at length words t j))
  pub closed : (a b : ℕ) → IsTrue (bit_at_word came a) → IsTrue (cell_at length words a b) → IsTrue (bit_at_word came b)

-- More bits have been collected: the rows of the targets from `low` on and below `high`.
pub record Gathers (length : ℕ) (words own : List ℕ) (row : ℕ) (before now : List ℕ) (low high : ℕ) : Type 0 where
  pub come : HasCome length words own row now
  pub keeps : (j : ℕ) → IsTrue (bit_at_word before j) → IsTrue (bit_at_word now j)
  pub covers : (t j : ℕ) → low ≤ t → t < high → IsTarget own row t → IsTrue (cell_at length words t j) → IsTrue (bit_at_word now j)

-- The rows lie between a relation and its closure, and the placed rows are closed.
pub record IsPlacing (length : ℕ) (words placed : List ℕ) (related : ℕ → ℕ → Bool) : Type 0 where
  pub grown : (i j : ℕ) → IsTrue (related i j) → IsTrue (cell_at length words i j)
  pub sound : (i j : ℕ) → IsTrue (cell_at length words i j) → Joins (λ a b. IsTrue (related a b)) i j
  pub closed : (i j : ℕ) → IsTrue (bit_at_word placed i) → Joins (λ a b. IsTrue (related a b)) i j → IsTrue (cell_at length words i j)

-- A bit is set if and only if a walk over the bits of the earlier rows leads from its row to its
-- column.
abbrev pub IsClosure : ℕ → List ℕ → List ℕ → Type 0
IsClosure length words now = (i j : ℕ) → IsTrue (cell_at length now i j) ↔ Joins (λ a b. IsTrue (cell_at length words a b)) i j

-- The rows lie between the earlier rows and their closure.
pub record IsBetween (length : ℕ) (words now : List ℕ) : Type 0 where
  pub grown : (i j : ℕ) → IsTrue (cell_at length words i j) → IsTrue (cell_at length now i j)
  pub sound : (i j : ℕ) → IsTrue (cell_at length now i j) → Joins (λ a b. IsTrue (cell_at length words a b)) i j
