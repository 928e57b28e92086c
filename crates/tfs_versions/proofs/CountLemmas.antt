-- Lemmas about sums over the names of a journal.
use Rattle.std.proofs.Common.{◌≡◌, ◌+◌, ◌<◌, ℕ, List, [], length, take, Option, ap, sym, ◌∙◌}
use Rattle.std.specs.List.{slice_get, sum_by}
use Rattle.std.specs.Option.{option_map_or}
use Rattle.std.proofs.lemmas.Option.{slice_get-get_or}
use Rattle.std.proofs.lemmas.List.Sums.{sum_by_more}

-- The sum over the first `i + 1` names is the sum over the first `i` plus the value of the next.
pub sum_next : (f : List ℕ → ℕ) (names : List (List ℕ)) (i : ℕ) → i < length names
    → sum_by f (take (i + 1) names) ≡ sum_by f (take i names) + option_map_or f (slice_get names i) 0
sum_next f names i less =
    sum_by_more f names i [] less
    ∙ ap (λ (o : Option (List ℕ)). sum_by f (take i names) + option_map_or f o 0) (sym (slice_get-get_or names i [] less))
