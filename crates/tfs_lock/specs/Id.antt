-- The identifier of a lock.
use Rattle.std.specs.Prelude.{ℕ, ◌≤◌, List, length}

-- The UTF-8 of an identifier: 1 to 256 bytes.
pub record IsIdText (text : List ℕ) : Type 0 where
  pub filled : 1 ≤ length text
  pub short : length text ≤ 256
