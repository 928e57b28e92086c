-- The capacity of a vector.
use Rattle.std.specs.Prelude.{◌≤◌, ℕ, vec_len, vec_capacity}
use Rattle.std.specs.Prelude.{Vec}

-- The vector has at most `limit` bytes, and capacity for `limit` bytes.
pub record HasRoom {Z : Type 0} (out : Vec ℕ Z) (limit : ℕ) : Type 0 where
  pub within : vec_len out ≤ limit
  pub room : limit ≤ vec_capacity out
