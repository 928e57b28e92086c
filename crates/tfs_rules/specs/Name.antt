-- The name of a workspace.
use Rattle.std.specs.Prelude.{ℕ, ◌≤◌, ◌==◌, ◌||◌, Bool, List, length, IsTrue}
use Rattle.std.specs.List.{list_all}
use Rattle.std.specs.Char.{is_ascii_alphanumeric}

-- An ASCII letter, a digit, `_`, `-` or `.`.
abbrev pub is_name_byte : ℕ → Bool
is_name_byte byte = is_ascii_alphanumeric byte || (byte == 95 || (byte == 45 || byte == 46))

-- The text of a name: 1 to 64 such bytes.
pub record IsName (text : List ℕ) : Type 0 where
  pub filled : 1 ≤ length text
  pub short : length text ≤ 64
  pub clean : IsTrue (list_all is_name_byte text)
