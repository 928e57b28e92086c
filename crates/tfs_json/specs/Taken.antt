-- The effect of reading one member of an object on the members that were found before it.
use Rattle.std.specs.Prelude.{◌≡◌, ℕ, List, [], ◌∷◌, ◌++◌, Some}
use Rattle.std.specs.Borrow.{Bor}
use Rattle.json.specs.Token.{Token}
use Rattle.json.specs.Json.{value}
use Rattle.json.specs.Value.{value_view}
use Rattle.json.specs.declared.value.Value.{Value}
use Rattle.serde_json.specs.Read.{converted}
use Rattle.tfs_json.specs.Kept.{kept, passed_value}

-- The value is read, and its kept part is appended under its name.
pub record PutsLast {A : Type 0} (depth : ℕ) (name : Bor (List ℕ)) (before after : List Token) (found more : List (Bor (List ℕ) × Value A)) : Type 0 where
  pub member : Value A
  pub read : converted kept (value depth before) ≡ Some (value_view member, after)
  pub last : more ≡ found ++ (name, member) ∷ []

-- The value is skipped, and the members found so far stay the same.
pub record PassesOver {A : Type 0} (depth : ℕ) (before after : List Token) (found more : List (Bor (List ℕ) × Value A)) : Type 0 where
  pub passed : passed_value depth before ≡ Some after
  pub same : more ≡ found
