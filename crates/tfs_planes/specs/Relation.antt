-- Relations: the set of pairs that contracts use for a plane.
use Rattle.std.specs.Prelude.{ℕ, [], ◌∷◌, IsTrue, refl}
use Rattle.std.specs.declared.cmp.Ordering.{Ordering}
use Rattle.std.specs.Coded.{Coded, code_by, coded×, coded_ℕ}
use Rattle.std.specs.Cmp.Lexicographic.{slice_cmp}
use Rattle.std.specs.FinSet.{FinSet, contains, code}
use Rattle.std.specs.Ordering.{nat_cmp}

-- The order of pairs: by the first number, then by the second.
abbrev pub pair_cmp : ℕ × ℕ → ℕ × ℕ → Ordering
pair_cmp p q = slice_cmp nat_cmp (p.0 ∷ p.1 ∷ []) (q.0 ∷ q.1 ∷ [])

-- A relation between the numbers below a size: a set of pairs.
pub record Relation : Type 0 where
  pub size : ℕ
  pub pairs : FinSet pair_cmp

-- Number i is related to j.
abbrev pub Relates : Relation → ℕ → ℕ → Type 0
Relates relation i j = IsTrue (contains relation.pairs (i, j))

-- The encoding of a relation: its size and its pairs.
abbrev pub relation_code : Coded Relation
relation_code =
    code_by (ℕ × FinSet pair_cmp) (coded× coded_ℕ (code (coded× coded_ℕ coded_ℕ))) (λ r. (r.size, r.pairs)) (λ p. record { size = p.0; pairs = p.1 })
    (λ _. refl)
