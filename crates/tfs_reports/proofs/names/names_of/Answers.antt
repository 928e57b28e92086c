-- The sorted names are a permutation of the unsorted ones.
use Rattle.std.proofs.Common.{List, ℕ, map, string_bytes, subst}
use Rattle.std.specs.List.Sorted.{IsPermutation}
use Rattle.std.proofs.lemmas.List.Sorted.{IsPermutation-map}
use Rattle.tfs_reports.proofs.names.names_of.Goals as goal

pub returns-clause-all : goal.returns-clause-all
returns-clause-all g c =
    subst (λ (names : List (List ℕ)). IsPermutation names (map string_bytes c.sort.new.names.items))
    c.in_ok-names.ensures
    (IsPermutation-map string_bytes _ _ c.sort.ensures.same)
