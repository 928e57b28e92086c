-- Lock information: the content of a lock text, with the text itself.
use Rattle.std.specs.Prelude.{ℕ, List}

-- The body of a lock request. `bytes` is its unchanged text, `id` is the UTF-8 of the identifier in
-- it.
pub record LockInformation : Type 0 where
  pub bytes : List ℕ
  pub id : List ℕ
